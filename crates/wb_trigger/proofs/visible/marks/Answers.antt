use Rattle.std.proofs.Common.{◌≡◌, Bool, slice_get, Some, None, sym, ap, ◌∙◌, arith, length-set}
use Rattle.std.specs.Option.{option_copied}
use Rattle.std.proofs.lemmas.Option.{slice_get_within}
use Rattle.wb_base.specs.FormFields.{fields_of}
use Rattle.wb_trigger.proofs.MarkLemmas.{mark-next, mark-end, past_from_None}
use Rattle.wb_trigger.proofs.visible.marks.Goals as goal

pub returns-in-None : goal.returns-in-None
returns-in-None g c =
    let all = fields_of c.as_slice-steps.result.now in
    let none : slice_get all c.loop-at.at ≡ None = sym c.field_at.ensures ∙ ap option_copied c.in-None.is in
    let past = past_from_None all c.loop-at.at none in
    rw (← c.as_slice-steps.ensures) (mark-end (g.L.Lookup.look c.args.answers.now) all c.loop-at.marks c.args.count c.loop-at.at (omega arith) (omega (arith, c.loop-at.invariant.within)) c.loop-at.invariant.made)

pub loop-at-preserved : goal.loop-at-preserved
loop-at-preserved g c =
    let all = fields_of c.as_slice-steps.result.now in
    let some : slice_get all c.loop-at.at ≡ Some c.in-Some.field.now = sym c.field_at.ensures ∙ ap option_copied c.in-Some.is in
    record {
      within = omega (arith, slice_get_within all c.loop-at.at c.in-Some.field.now some);
      room = omega (arith, length-set {A = Bool}, c.loop-at.invariant.room);
      made = mark-next (g.L.Lookup.look c.args.answers.now) all c.loop-at.marks c.loop-at.at c.in-Some.field.now c.is_triggered.result some (omega (arith, c.loop-at.invariant.room)) c.loop-at.invariant.made c.is_triggered.ensures;
    }
