use Rattle.std.proofs.Common.{not, take, sym, ap, ◌∙◌}
use Rattle.std.specs.List.{list_any}
use Rattle.wb_base.specs.declared.form.Part.{Part}
use Rattle.wb_base.specs.FormFields.{is_field, parts_of}
use Rattle.wb_base.specs.FormParts.{part_at}
use Rattle.wb_base.proofs.Parts.{any-found, any-passed}
use Rattle.wb_form.proofs.rules.any_late.Goals as goal

pub returns-then-not-has : goal.returns-then-not-has
returns-then-not-has c =
    sym (any-found (λ (p : Part). not (list_any (is_field p.field) (take c.args.at c.args.index.now))) (parts_of c.args.show.now) c.loop-place.place (part_at c.part.result) c.part.ensures (ap not (sym c.has.ensures ∙ c.if-not-has.true))) ∙ c.loop-place.invariant

pub loop-place-preserved : goal.loop-place-preserved
loop-place-preserved c =
    any-passed (λ (p : Part). not (list_any (is_field p.field) (take c.args.at c.args.index.now))) (parts_of c.args.show.now) c.loop-place.place (part_at c.part.result) c.part.ensures (ap not (sym c.has.ensures ∙ c.if-not-has.false)) ∙ c.loop-place.invariant
