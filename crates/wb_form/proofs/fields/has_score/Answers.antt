use Rattle.std.proofs.Common.{◌≡◌, ◌+◌, ◌||◌, Bool, true, false, List, drop, sym, ap, ◌∙◌}
use Rattle.std.specs.List.{list_any}
use Rattle.wb_base.specs.declared.form.Field.{Field}
use Rattle.wb_base.specs.declared.form.Step.{Step}
use Rattle.wb_base.specs.FormFields.{fields_of, is_scored}
use Rattle.wb_form.proofs.Walks.{step-any}
use Rattle.wb_form.proofs.fields.has_score.Goals as goal

abbrev test : Field → Bool
test f = is_scored f.show

pub returns-then-any_scored : goal.returns-then-any_scored
returns-then-any_scored c =
    let s = c.step-item.result in
    let steps = c.as_slice-steps.result.now in
    let rest = list_any test (fields_of (drop (c.loop-step.step-index + 1) steps)) in
    let next = step-any test steps c.loop-step.step-index s c.loop-step-test.true c.step-item.is in
    let here : list_any test s.fields ≡ true = ap (list_any test) (sym c.as_slice-fields.ensures) ∙ sym c.any_scored.ensures ∙ c.if-any_scored.true in
    sym (ap (λ (ss : List Step). list_any test (fields_of ss)) (sym c.as_slice-steps.ensures) ∙ sym c.loop-step.invariant ∙ next ∙ ap (λ b. b || rest) here)

pub loop-step-preserved : goal.loop-step-preserved
loop-step-preserved c =
    let s = c.step-item.result in
    let steps = c.as_slice-steps.result.now in
    let rest = list_any test (fields_of (drop (c.loop-step.step-index + 1) steps)) in
    let next = step-any test steps c.loop-step.step-index s c.loop-step-test.true c.step-item.is in
    let here : list_any test s.fields ≡ false = ap (list_any test) (sym c.as_slice-fields.ensures) ∙ sym c.any_scored.ensures ∙ c.if-any_scored.false in
    sym (next ∙ ap (λ b. b || rest) here) ∙ c.loop-step.invariant
