use Rattle.std.proofs.Common.{◌≡◌, ◌++◌, drop}
use Rattle.wb_model.specs.Rows.{entries_from}
use Rattle.wb_rows.proofs.writing.add_trail.Given as goal

abbrev pub invariant-loop-entry : goal.invariant-loop-entry
invariant-loop-entry l = l.rows.items ++ entries_from l.case.tenant l.case.number l.place (drop l.entry-index l.entry-items) ≡ l.initial.rows.items ++ entries_from l.case.tenant l.case.number 1 l.entry-items
