use Rattle.std.proofs.Common.{◌≡◌, ◌++◌, drop, map}
use Rattle.wb_custody.specs.SealedAnswers.{answers_of}
use Rattle.wb_rows.specs.Reports.{case_report}
use Rattle.wb_rows.specs.HeldRows.{sealed_rows}
use Rattle.wb_rows.proofs.writing.add_all_sealed.Given as goal

abbrev pub invariant-loop-case : goal.invariant-loop-case
invariant-loop-case l = l.rows.items ++ sealed_rows (answers_of l.sealed.items) (map case_report (drop l.case-index l.cases)) ≡ l.initial.rows.items ++ sealed_rows (answers_of l.sealed.items) (map case_report l.cases)
