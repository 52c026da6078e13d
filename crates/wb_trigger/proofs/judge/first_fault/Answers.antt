use Rattle.std.proofs.Common.{◌≡◌, drop, slice_get, Some, None, sym, ap, ◌∙◌, arith}
use Rattle.std.specs.Option.{option_copied}
use Rattle.wb_base.specs.AnswerList.{answer_to}
use Rattle.wb_base.specs.FormFields.{fields_of}
use Rattle.wb_trigger.proofs.MarkLemmas.{past_from_None}
use Rattle.wb_trigger.proofs.FaultLemmas.{fault-known, fault-past_fields}
use Rattle.wb_trigger.proofs.judge.first_fault.Goals as goal

pub returns-in-Some-2-clause-value : goal.returns-in-Some-2-clause-value
returns-in-Some-2-clause-value g c =
    let at = c.loop-at.at in
    let f = c.in-Some.field.now in
    let some : slice_get (fields_of c.as_slice-steps.result.now) at ≡ Some f = sym c.field_at.ensures ∙ ap option_copied c.in-Some.is in
    let here = fault-known (g.X.ItemTest.passes c.args.looked_at.now) (answer_to c.args.answers.now) c.args.marked c.args.marks.now (fields_of c.args.form.now.steps) at f
    c.in_ok-code-in-Some.field-0 (Some c.in-Some-2.code) (rw (← c.as_slice-steps.ensures) some) (omega arith) c.in_ok-code-in-Some.ensures.value c.in-Some-2.is in
    cc (here, c.in_ok-fault_of-in-Some.ensures)

pub returns-in-None-clause-value : goal.returns-in-None-clause-value
returns-in-None-clause-value g c =
    let at = c.loop-at.at in
    let none : slice_get (fields_of c.as_slice-steps.result.now) at ≡ None = sym c.field_at.ensures ∙ ap option_copied c.in-None.is in
    let past = past_from_None (fields_of c.args.form.now.steps) at (rw (← c.as_slice-steps.ensures) none) in
    let end = fault-past_fields (g.X.ItemTest.passes c.args.looked_at.now) (answer_to c.args.answers.now) c.args.marked (drop at c.args.marks.now) (fields_of c.args.form.now.steps) at past in
    cc

pub loop-at-preserved : goal.loop-at-preserved
loop-at-preserved g c =
    let at = c.loop-at.at in
    let f = c.in-Some.field.now in
    let some : slice_get (fields_of c.as_slice-steps.result.now) at ≡ Some f = sym c.field_at.ensures ∙ ap option_copied c.in-Some.is in
    let here = fault-known (g.X.ItemTest.passes c.args.looked_at.now) (answer_to c.args.answers.now) c.args.marked c.args.marks.now (fields_of c.args.form.now.steps) at f
    c.in_ok-code-in-Some.field-0 None (rw (← c.as_slice-steps.ensures) some) (omega arith) c.in_ok-code-in-Some.ensures.value c.in_default.is in
    cc
