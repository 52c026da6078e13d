use Rattle.std.proofs.Common.{◌&&◌, take, sym, ◌∙◌}
use Rattle.std.specs.List.{list_any}
use Rattle.wb_base.specs.declared.form.Field.{Field}
use Rattle.wb_base.specs.declared.form.Part.{Part}
use Rattle.wb_base.specs.FormFields.{is_field, parts_of}
use Rattle.wb_base.specs.FormParts.{part_at}
use Rattle.wb_base.proofs.Parts.{any-found, any-passed}
use Rattle.wb_form.proofs.rules.any_identity.Goals as goal

pub returns-then-has_identity : goal.returns-then-has_identity
returns-then-has_identity c =
    sym (any-found (λ (p : Part). list_any (λ (g : Field). is_field p.field g && g.identity) (take c.args.at c.args.index.now)) (parts_of c.args.show.now) c.loop-place.place (part_at c.part.result) c.part.ensures (sym c.has_identity.ensures ∙ c.if-has_identity.true)) ∙ c.loop-place.invariant

pub loop-place-preserved : goal.loop-place-preserved
loop-place-preserved c =
    any-passed (λ (p : Part). list_any (λ (g : Field). is_field p.field g && g.identity) (take c.args.at c.args.index.now)) (parts_of c.args.show.now) c.loop-place.place (part_at c.part.result) c.part.ensures (sym c.has_identity.ensures ∙ c.if-has_identity.false) ∙ c.loop-place.invariant
