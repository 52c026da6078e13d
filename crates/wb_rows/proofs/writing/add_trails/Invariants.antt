use Rattle.std.proofs.Common.{◌≡◌, ◌++◌, drop, map}
use Rattle.wb_rows.specs.Reports.{case_report}
use Rattle.wb_rows.specs.HeldRows.{trail_rows}
use Rattle.wb_rows.proofs.writing.add_trails.Given as goal

abbrev pub invariant-loop-case : goal.invariant-loop-case
invariant-loop-case l = l.rows.items ++ trail_rows (map case_report (drop l.case-index l.cases)) ≡ l.initial.rows.items ++ trail_rows (map case_report l.cases)
