use Rattle.std.proofs.Common.{◌≡◌, drop, map}
use Rattle.std.specs.Prelude.{max}
use Rattle.wb_model.specs.Reopened.{latest}
use Rattle.wb_rows.specs.Reports.{case_report}
use Rattle.wb_rows.specs.Openings.{report_moments}
use Rattle.wb_recovery.proofs.moments.latest_of_reports.Given as goal

abbrev pub invariant-loop-item : goal.invariant-loop-item
invariant-loop-item l = max l.last (latest (report_moments (map case_report (drop l.item-index l.cases)))) ≡ max l.fn.time (latest (report_moments (map case_report l.cases)))
