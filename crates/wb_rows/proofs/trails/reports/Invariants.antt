use Rattle.std.proofs.Common.{◌≡◌, map}
use Rattle.wb_rows.specs.Growing.{rest_of, with_all, AreReady}
use Rattle.wb_rows.specs.Reports.{case_report}
use Rattle.wb_rows.specs.TrailRule.{reports_of}
use Rattle.wb_rows.proofs.trails.reports.Given as goal

abbrev pub invariant-loop-entry : goal.invariant-loop-entry
invariant-loop-entry l = record {
  ready : AreReady l.registry.lists l.report;
  reports : with_all (map case_report l.done.items) (rest_of l.registry.lists l.report l.entry-iterator.rest.items) ≡ reports_of l.registry.lists l.fn.entries.items;
}
