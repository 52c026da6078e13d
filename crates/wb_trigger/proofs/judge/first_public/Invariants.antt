use Rattle.std.proofs.Common.{◌≡◌, drop}
use Rattle.wb_base.specs.AnswerFaults.{first_without, is_identity}
use Rattle.wb_trigger.proofs.judge.first_public.Given as goal

abbrev pub invariant-loop-entry : goal.invariant-loop-entry
invariant-loop-entry l = first_without (is_identity l.form) (drop l.entry-index l.entry-items) ≡ first_without (is_identity l.form) l.entry-items
