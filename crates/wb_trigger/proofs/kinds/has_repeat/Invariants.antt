use Rattle.std.proofs.Common.{◌≡◌, drop}
use Rattle.wb_base.specs.AnswerFaults.{has_repeat}
use Rattle.wb_trigger.proofs.kinds.has_repeat.Given as goal

abbrev pub invariant-loop-at : goal.invariant-loop-at
invariant-loop-at l = has_repeat (drop l.at l.texts) ≡ has_repeat l.texts
