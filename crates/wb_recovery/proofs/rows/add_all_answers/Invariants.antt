use Rattle.std.proofs.Common.{◌≡◌, ◌++◌, drop, map}
use Rattle.wb_model.specs.Rows.{sealed_rows}
use Rattle.wb_tables.specs.Kept.{case_of, sealed_of}
use Rattle.wb_recovery.proofs.rows.add_all_answers.Given as goal

abbrev pub invariant-loop-filed : goal.invariant-loop-filed
invariant-loop-filed l = l.rows.items ++ sealed_rows l.tenant (sealed_of l.sealed.items l.tenant) (map case_of (drop l.filed-index l.reports)) ≡ l.initial.rows.items ++ sealed_rows l.tenant (sealed_of l.sealed.items l.tenant) (map case_of l.reports)
