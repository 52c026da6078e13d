use Rattle.std.proofs.Common.{sym}
use Rattle.wb_commands.proofs.SetUps.{trail_form_good}
use Rattle.wb_commands.proofs.identity.give_identity.Goals as goal

pub give_after-requires : goal.give_after-requires
give_after-requires c = record { good = trail_form_good c.args.report.now.case.items c.args.tenancy.now.configuration.registry.forms c.in-Some.item.now c.requires.place.registry.forms (sym c.in-Some.ensures) }
