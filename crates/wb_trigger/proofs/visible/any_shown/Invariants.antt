use Rattle.std.proofs.Common.{◌≡◌, drop}
use Rattle.wb_trigger.specs.Marks.{any_shown}
use Rattle.wb_trigger.proofs.visible.any_shown.Given as goal

abbrev pub invariant-loop-at : goal.invariant-loop-at
invariant-loop-at l = any_shown (drop l.at l.fields) (drop l.at l.marks) l.id ≡ any_shown l.fields l.marks l.id
