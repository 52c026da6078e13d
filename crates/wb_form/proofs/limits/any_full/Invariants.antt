use Rattle.std.proofs.Common.{◌≡◌, drop, map}
use Rattle.std.specs.List.{list_any}
use Rattle.wb_base.specs.FormFaults.{is_full_field}
use Rattle.wb_form.proofs.limits.any_full.Given as goal

abbrev pub invariant-loop-field : goal.invariant-loop-field
invariant-loop-field l = list_any is_full_field (map (λ f. f.now) (drop l.field-index l.fields)) ≡ list_any is_full_field (map (λ f. f.now) l.fields)
