use Rattle.std.proofs.Common.{sym, ap, ◌∙◌}
use Rattle.wb_rows.specs.TrailRule.{reports_of}
use Rattle.wb_rows.proofs.ReportOrder.{cases-order}
use Rattle.wb_rows.proofs.reading.sorted_reports.Goals as goal

pub of-requires : goal.of-requires
of-requires c = cases-order c.args.registry.now.lists c.args.entries c.in_ok-cases.cases.items c.requires.entries (sym (ap (reports_of c.args.registry.now.lists) c.into_vec.ensures) ∙ c.in_ok-cases.ensures.ok)
