use Rattle.std.proofs.Common.{◌≡◌, ◌++◌, drop}
use Rattle.wb_model.specs.Rows.{entries_from}
use Rattle.wb_recovery.proofs.rows.add_trail.Given as goal

abbrev pub invariant-loop-entry : goal.invariant-loop-entry
invariant-loop-entry l = l.rows.items ++ entries_from l.tenant l.number l.place (drop l.entry-index l.trail) ≡ l.initial.rows.items ++ entries_from l.tenant l.number 1 l.trail
