use Rattle.std.proofs.Common.{◌≡◌, ◌≤◌, drop, length}
use Rattle.wb_base.specs.FormFields.{fields_of}
use Rattle.wb_trigger.specs.Marks.{any_shown}
use Rattle.wb_trigger.proofs.visible.shows.Given as goal

abbrev pub invariant-loop-step : goal.invariant-loop-step
invariant-loop-step l = record {
  within : l.at ≤ length l.marks;
  rest : any_shown (fields_of (drop l.step-index l.steps)) (drop l.at l.marks) l.id ≡ any_shown (fields_of l.steps) l.marks l.id;
}
