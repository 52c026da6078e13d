use Rattle.std.proofs.Common.{◌≡◌, drop}
use Rattle.std.specs.List.{list_any}
use Rattle.wb_base.specs.FormFields.{fields_of, is_scored}
use Rattle.wb_form.proofs.fields.has_score.Given as goal

abbrev pub invariant-loop-step : goal.invariant-loop-step
invariant-loop-step l = list_any (λ f. is_scored f.show) (fields_of (drop l.step-index l.steps)) ≡ list_any (λ f. is_scored f.show) (fields_of l.steps)
