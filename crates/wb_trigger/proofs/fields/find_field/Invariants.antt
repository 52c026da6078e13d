use Rattle.std.proofs.Common.{◌≡◌, drop, find}
use Rattle.wb_base.specs.FormFields.{fields_of, is_field}
use Rattle.wb_trigger.proofs.fields.find_field.Given as goal

abbrev pub invariant-loop-step : goal.invariant-loop-step
invariant-loop-step l = find (is_field l.id) (fields_of (drop l.step-index l.steps)) ≡ find (is_field l.id) (fields_of l.steps)
