use Rattle.std.proofs.Common.{◌≡◌, drop}
use Rattle.std.specs.List.{list_any}
use Rattle.wb_base.specs.AnswerList.{is_text}
use Rattle.wb_trigger.proofs.kinds.has_text.Given as goal

abbrev pub invariant-loop-other : goal.invariant-loop-other
invariant-loop-other l = list_any (λ u. is_text u l.text) (drop l.other-index l.texts) ≡ list_any (λ u. is_text u l.text) l.texts
