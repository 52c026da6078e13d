use Rattle.std.proofs.Common.{◌≡◌, true, map}
use Rattle.std.specs.List.{AllByRecursion, list_all}
use Rattle.wb_model.specs.declared.registry.Lists.{Lists}
use Rattle.wb_rows.specs.Reports.{case_report}
use Rattle.wb_rows.specs.TrailRule.{is_legal_report}
use Rattle.wb_tables.specs.Kept.{place_of}
use Rattle.wb_recovery.specs.HeldPlaces.{AreToCome, with_reports}
use Rattle.wb_recovery.proofs.KeptReports.{Rise}
use Rattle.wb_recovery.proofs.reports.add_reports.Given as goal

abbrev pub invariant-loop-item : goal.invariant-loop-item
invariant-loop-item l = record {
  ids : Rise 0 (map place_of l.tenancies);
  to_come : AllByRecursion (AreToCome (map case_report l.item-iterator.rest.items)) (map place_of l.tenancies);
  legal : (lists : Lists) × (list_all (is_legal_report lists) (map case_report l.item-iterator.rest.items) ≡ true);
  places : map (with_reports (map case_report l.item-iterator.rest.items)) (map place_of l.tenancies) ≡ map (with_reports (map case_report l.fn.cases)) (map place_of l.fn.tenancies);
}
