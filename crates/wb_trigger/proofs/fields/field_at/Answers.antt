use Rattle.std.proofs.Common.{drop, slice_get, ◌+◌, ◌-◌, sym, ap, ◌∙◌, arith}
use Rattle.wb_base.specs.FormFields.{fields_of}
use Rattle.wb_trigger.proofs.MarkLemmas.{slice_get-near, slice_get-far, fields_of-step}
use Rattle.wb_trigger.proofs.fields.field_at.Goals as goal

pub returns-then-left-len : goal.returns-then-left-len
returns-then-left-len c =
    let s = c.step-item.result in
    let steps = c.args.steps.now in
    let next = fields_of-step steps c.loop-step.step-index s c.loop-step-test.true c.step-item.is in
    sym c.get.ensures ∙ sym (slice_get-near s.fields (fields_of (drop (c.loop-step.step-index + 1) steps)) c.loop-step.left (omega arith))
    ∙ ap (λ fs. slice_get fs c.loop-step.left) (sym next) ∙ c.loop-step.invariant

pub loop-step-preserved : goal.loop-step-preserved
loop-step-preserved c =
    let s = c.step-item.result in
    let steps = c.args.steps.now in
    let next = fields_of-step steps c.loop-step.step-index s c.loop-step-test.true c.step-item.is in
    sym (slice_get-far s.fields (fields_of (drop (c.loop-step.step-index + 1) steps)) c.loop-step.left (c.loop-step.left - c.len-left.result) (omega arith))
    ∙ ap (λ fs. slice_get fs c.loop-step.left) (sym next) ∙ c.loop-step.invariant
