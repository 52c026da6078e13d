use Rattle.wb_memory.proofs.ReportParts.{report_dropped}
use Rattle.wb_memory.proofs.keeper.drop_report.Goals as goal

pub returns-clause-rows : goal.returns-clause-rows
returns-clause-rows c = rw (c.drop_part-2.ensures.rows, c.drop_part.ensures.rows) (report_dropped c.args.tenant c.args.number c.args.rows.now.items)
