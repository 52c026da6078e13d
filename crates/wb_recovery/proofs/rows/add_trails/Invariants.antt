use Rattle.std.proofs.Common.{◌≡◌, ◌++◌, drop, map}
use Rattle.wb_model.specs.Rows.{trail_rows}
use Rattle.wb_tables.specs.Kept.{case_of}
use Rattle.wb_recovery.proofs.rows.add_trails.Given as goal

abbrev pub invariant-loop-filed : goal.invariant-loop-filed
invariant-loop-filed l = l.rows.items ++ trail_rows l.tenant (map case_of (drop l.filed-index l.reports)) ≡ l.initial.rows.items ++ trail_rows l.tenant (map case_of l.reports)
