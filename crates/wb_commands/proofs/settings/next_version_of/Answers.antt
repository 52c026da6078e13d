use Rattle.std.proofs.Common.{sym, arith}
use Rattle.wb_commands.proofs.SetUps.{newest_version}
use Rattle.wb_commands.proofs.settings.next_version_of.Goals as goal

pub overflow_add-result : goal.overflow_add-result
overflow_add-result c = let most = newest_version c.args.f c.in-Some.item.now c.args.tenancy.now.configuration.registry.forms (sym c.in-Some.ensures) c.requires.place.registry.versions in omega (arith, most)
