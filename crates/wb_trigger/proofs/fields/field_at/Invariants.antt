use Rattle.std.proofs.Common.{◌≡◌, drop, slice_get}
use Rattle.wb_base.specs.FormFields.{fields_of}
use Rattle.wb_trigger.proofs.fields.field_at.Given as goal

abbrev pub invariant-loop-step : goal.invariant-loop-step
invariant-loop-step l = slice_get (fields_of (drop l.step-index l.steps)) l.left ≡ slice_get (fields_of l.steps) l.at
