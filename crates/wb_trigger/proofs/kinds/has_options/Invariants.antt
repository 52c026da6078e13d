use Rattle.std.proofs.Common.{◌≡◌, drop}
use Rattle.std.specs.List.{list_any, list_all}
use Rattle.wb_base.specs.FormFields.{is_option}
use Rattle.wb_trigger.proofs.kinds.has_options.Given as goal

abbrev pub invariant-loop-text : goal.invariant-loop-text
invariant-loop-text l = list_all (λ t. list_any (is_option t) l.options) (drop l.text-index l.texts) ≡ list_all (λ t. list_any (is_option t) l.options) l.texts
