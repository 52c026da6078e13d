use Rattle.std.proofs.Common.{◌≡◌, drop}
use Rattle.std.specs.List.{list_any}
use Rattle.wb_base.specs.FormFields.{is_option}
use Rattle.wb_trigger.proofs.kinds.has_option.Given as goal

abbrev pub invariant-loop-option : goal.invariant-loop-option
invariant-loop-option l = list_any (is_option l.id) (drop l.option-index l.options) ≡ list_any (is_option l.id) l.options
