use Rattle.std.proofs.Common.{sym, ap, ◌∙◌, subst}
use Rattle.wb_tables.specs.Kept.{plain_of}
use Rattle.wb_tables.specs.Receipted.{HasOwnReceipt, is_submitted}
use Rattle.wb_commands.proofs.opening.Opening.apply.Goals as goal

pub add-requires-clause-submitted : goal.add-requires-clause-submitted
add-requires-clause-submitted c = ap is_submitted c.numbered.ensures.trail ∙ c.requires.submitted

pub add-requires-clause-own : goal.add-requires-clause-own
add-requires-clause-own c = subst (λ es. HasOwnReceipt es (plain_of c.args.tenancy.now).cases) (sym c.numbered.ensures.trail) c.requires.own
