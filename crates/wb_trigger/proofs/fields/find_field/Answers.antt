use Rattle.std.proofs.Common.{◌≡◌, ◌+◌, drop, find, Some, None, sym, ap, ◌∙◌}
use Rattle.std.specs.Option.{option_copied}
use Rattle.wb_base.specs.FormFields.{fields_of, is_field}
use Rattle.wb_trigger.proofs.MarkLemmas.{fields_of-step}
use Rattle.wb_trigger.proofs.FaultLemmas.{find-near, find-far}
use Rattle.wb_trigger.proofs.fields.find_field.Goals as goal

pub returns-in-Some : goal.returns-in-Some
returns-in-Some c =
    let s = c.step-item.result in
    let steps = c.args.steps.now in
    let next = fields_of-step steps c.loop-step.step-index s c.loop-step-test.true c.step-item.is in
    let found : find (is_field c.args.id.now) s.fields ≡ Some c.in-Some.field.now =
    ap (λ fs. find (is_field c.args.id.now) fs) (sym c.as_slice.ensures) ∙ sym c.find_in.ensures ∙ ap option_copied c.in-Some.is in
    sym (find-near (is_field c.args.id.now) s.fields (fields_of (drop (c.loop-step.step-index + 1) steps)) c.in-Some.field.now found)
    ∙ ap (λ fs. find (is_field c.args.id.now) fs) (sym next) ∙ c.loop-step.invariant

pub loop-step-preserved : goal.loop-step-preserved
loop-step-preserved c =
    let s = c.step-item.result in
    let steps = c.args.steps.now in
    let next = fields_of-step steps c.loop-step.step-index s c.loop-step-test.true c.step-item.is in
    let none : find (is_field c.args.id.now) s.fields ≡ None =
    ap (λ fs. find (is_field c.args.id.now) fs) (sym c.as_slice.ensures) ∙ sym c.find_in.ensures ∙ ap option_copied c.in_default.is in
    sym (find-far (is_field c.args.id.now) s.fields (fields_of (drop (c.loop-step.step-index + 1) steps)) none)
    ∙ ap (λ fs. find (is_field c.args.id.now) fs) (sym next) ∙ c.loop-step.invariant
