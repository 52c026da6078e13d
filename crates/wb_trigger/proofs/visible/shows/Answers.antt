use Rattle.std.proofs.Common.{◌≡◌, drop, length, ◌+◌, ◌||◌, false, sym, ap, ◌∙◌, arith}
use Rattle.wb_base.specs.FormFields.{fields_of}
use Rattle.wb_trigger.specs.Marks.{any_shown}
use Rattle.wb_trigger.proofs.MarkLemmas.{shows-step, any_shown-past, called}
use Rattle.wb_trigger.proofs.visible.shows.Goals as goal

pub returns-then-any_shown : goal.returns-then-any_shown
returns-then-any_shown c =
    let s = c.step-item.result in
    let steps = c.args.steps.now in
    let marks = c.args.marks.now in
    let id = c.args.id.now in
    let at = c.loop-step.at in
    let next = shows-step steps marks id c.loop-step.step-index at s c.loop-step-test.true c.step-item.is in
    let here = called c.as_slice-fields.result.now s.fields marks at id c.any_shown.result c.as_slice-fields.ensures c.any_shown.ensures in
    let later = any_shown (fields_of (drop (c.loop-step.step-index + 1) steps)) (drop (at + length s.fields) marks) id in
    sym (sym c.loop-step.invariant.rest ∙ next ∙ ap (λ v. v || later) (here ∙ c.if-any_shown.true))

pub returns-then-marks-at : goal.returns-then-marks-at
returns-then-marks-at c =
    let s = c.step-item.result in
    let steps = c.args.steps.now in
    let marks = c.args.marks.now in
    let id = c.args.id.now in
    let at = c.loop-step.at in
    let next = shows-step steps marks id c.loop-step.step-index at s c.loop-step-test.true c.step-item.is in
    let here = called c.as_slice-fields.result.now s.fields marks at id c.any_shown.result c.as_slice-fields.ensures c.any_shown.ensures in
    let later = any_shown (fields_of (drop (c.loop-step.step-index + 1) steps)) (drop (at + length s.fields) marks) id in
    let past : later ≡ false = any_shown-past (fields_of (drop (c.loop-step.step-index + 1) steps)) marks (at + length s.fields) id (omega (arith, ap length c.as_slice-fields.ensures)) in
    sym (sym c.loop-step.invariant.rest ∙ next ∙ ap (λ v. v || later) (here ∙ c.if-any_shown.false) ∙ past)

pub loop-step-preserved : goal.loop-step-preserved
loop-step-preserved c =
    let s = c.step-item.result in
    let steps = c.args.steps.now in
    let marks = c.args.marks.now in
    let id = c.args.id.now in
    let at = c.loop-step.at in
    let next = shows-step steps marks id c.loop-step.step-index at s c.loop-step-test.true c.step-item.is in
    let here = called c.as_slice-fields.result.now s.fields marks at id c.any_shown.result c.as_slice-fields.ensures c.any_shown.ensures in
    let later = any_shown (fields_of (drop (c.loop-step.step-index + 1) steps)) (drop (at + length s.fields) marks) id in
    record {
      within = omega arith;
      rest = ap (λ fs. any_shown (fields_of (drop (c.loop-step.step-index + 1) steps)) (drop (at + length fs) marks) id) c.as_slice-fields.ensures
          ∙ sym (next ∙ ap (λ v. v || later) (here ∙ c.if-any_shown.false)) ∙ c.loop-step.invariant.rest;
    }
