use Rattle.std.proofs.Common.{◌≡◌, ◌++◌, drop, map}
use Rattle.wb_base.specs.FormFields.{fields_of}
use Rattle.wb_form.proofs.fields.fields.Given as goal

abbrev pub invariant-loop-step : goal.invariant-loop-step
invariant-loop-step l = map (λ f. f.now) l.found.items ++ fields_of (drop l.step-index l.step-items) ≡ fields_of l.step-items

abbrev pub invariant-loop-field : goal.invariant-loop-field
invariant-loop-field l = map (λ f. f.now) l.found.items ++ drop l.field-index l.field-items ≡ map (λ f. f.now) l.initial.found.items ++ l.field-items
