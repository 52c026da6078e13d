use Rattle.std.proofs.Common.{◌≡◌, drop, find}
use Rattle.wb_base.specs.FormFields.{is_field}
use Rattle.wb_trigger.proofs.fields.find_in.Given as goal

abbrev pub invariant-loop-field : goal.invariant-loop-field
invariant-loop-field l = find (is_field l.id) (drop l.field-index l.fields) ≡ find (is_field l.id) l.fields
