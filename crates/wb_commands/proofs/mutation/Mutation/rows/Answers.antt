use Rattle.std.proofs.Common.{subst}
use Rattle.wb_model.specs.Tables.{is_live}
use Rattle.wb_model.proofs.PastLaw.{there_before}
use Rattle.wb_commands.specs.Plans.{IsFit}
use Rattle.wb_tables.specs.Kept.{plain_of}
use Rattle.wb_commands.proofs.mutation.Mutation.rows.Goals as goal

pub rows-requires : goal.rows-requires
rows-requires c = record { begun = (subst (IsFit c.requires.fit.0 c.args.tenancy.now) c.in-Begins.is c.requires.fit.1).1 }

pub rows-requires-in-Notes : goal.rows-requires-in-Notes
rows-requires-in-Notes c =
    there_before (is_live c.args.tenancy.now.configuration.registry.settings c.requires.fit.0) c.in-Notes.noted.number (plain_of c.args.tenancy.now).cases (subst (IsFit c.requires.fit.0 c.args.tenancy.now) c.in-Notes.is c.requires.fit.1)
