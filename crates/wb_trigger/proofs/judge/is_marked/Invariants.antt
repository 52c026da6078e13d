use Rattle.std.proofs.Common.{◌≡◌, drop}
use Rattle.wb_base.specs.AnswerFaults.{is_marked}
use Rattle.wb_trigger.proofs.judge.is_marked.Given as goal

abbrev pub invariant-loop-entry : goal.invariant-loop-entry
invariant-loop-entry l = is_marked l.form (drop l.entry-index l.entry-items) ≡ is_marked l.form l.entry-items
