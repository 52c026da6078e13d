use Rattle.wb_memory.proofs.ReportParts.{part_is_run}
use Rattle.wb_memory.proofs.keeper.drop_part.Goals as goal

pub drop_run-requires : goal.drop_run-requires
drop_run-requires c = part_is_run c.args.kind c.id-tenant.result c.get-number.result
