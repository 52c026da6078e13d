use Rattle.std.proofs.Common.{◌≡◌, ◌&&◌, drop, take}
use Rattle.std.specs.List.{list_any}
use Rattle.wb_base.specs.FormFields.{is_field, parts_of}
use Rattle.wb_form.proofs.rules.any_identity.Given as goal

abbrev pub invariant-loop-place : goal.invariant-loop-place
invariant-loop-place l = list_any (λ c. list_any (λ g. is_field c.field g && g.identity) (take l.at l.index)) (drop l.place (parts_of l.show)) ≡ list_any (λ c. list_any (λ g. is_field c.field g && g.identity) (take l.at l.index)) (parts_of l.show)
