use Rattle.std.proofs.Common.{◌≡◌, drop, ◌+◌, ◌&&◌, ◌||◌, false, get_or, sym, ap, ◌∙◌, refl, arith}
use Rattle.wb_base.specs.FormFields.{is_field}
use Rattle.wb_trigger.specs.Marks.{any_shown}
use Rattle.wb_trigger.proofs.MarkLemmas.{any_shown-next, and_none}
use Rattle.wb_trigger.proofs.visible.any_shown.Goals as goal
use Rattle.wb_trigger.proofs.visible.any_shown.Goals.{else-eq-via-then-eq+else-marks-at-2, else-eq-via-else-eq}

pub loop-at-preserved : goal.loop-at-preserved
loop-at-preserved c =
    let fs = c.args.fields.now in
    let marks = c.args.marks.now in
    let id = c.args.id.now in
    let f = c.index-fields-at.result in
    let next : any_shown (drop c.loop-at.at fs) (drop c.loop-at.at marks) id ≡ ((is_field id (get_or fs c.loop-at.at f) && get_or marks c.loop-at.at false) || any_shown (drop (c.loop-at.at + 1) fs) (drop (c.loop-at.at + 1) marks) id) =
    any_shown-next fs marks id c.loop-at.at f (omega arith) (omega arith) in
    let unmet : (is_field id f && get_or marks c.loop-at.at false) ≡ false = elim c.else-eq.branch [
      | else-eq-via-then-eq+else-marks-at-2 w ↦ and_none (is_field id f) _ w.if-marks-at-2.false
      | else-eq-via-else-eq w ↦ (let e : is_field id f ≡ false = sym c.eq.ensures ∙ w.if-eq.false in rw e refl)
    ] in
    sym (next ∙ ap (λ v. v || any_shown (drop (c.loop-at.at + 1) fs) (drop (c.loop-at.at + 1) marks) id) (ap (λ g. is_field id g && get_or marks c.loop-at.at false) (sym c.index-fields-at.is) ∙ unmet)) ∙ c.loop-at.invariant
