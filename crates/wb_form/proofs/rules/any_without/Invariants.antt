use Rattle.std.proofs.Common.{◌≡◌, ◌&&◌, not, drop, take}
use Rattle.std.specs.List.{list_any}
use Rattle.wb_base.specs.FormFields.{is_field, is_option, options_of, parts_of}
use Rattle.wb_form.proofs.rules.any_without.Given as goal

abbrev pub invariant-loop-place : goal.invariant-loop-place
invariant-loop-place l = list_any (λ c. list_any (λ g. is_field c.field g && not (list_any (is_option c.option) (options_of g.kind))) (take l.at l.index)) (drop l.place (parts_of l.show)) ≡ list_any (λ c. list_any (λ g. is_field c.field g && not (list_any (is_option c.option) (options_of g.kind))) (take l.at l.index)) (parts_of l.show)
