use Rattle.std.proofs.Common.{◌≡◌, drop}
use Rattle.std.specs.List.{list_any}
use Rattle.wb_base.specs.AnswerList.{is_text}
use Rattle.wb_trigger.proofs.visible.any_text.Given as goal

abbrev pub invariant-loop-text : goal.invariant-loop-text
invariant-loop-text l = list_any (λ t. is_text t l.option) (drop l.text-index l.texts) ≡ list_any (λ t. is_text t l.option) l.texts
