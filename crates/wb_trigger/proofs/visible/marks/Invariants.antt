use Rattle.std.proofs.Common.{◌≡◌, ◌≤◌, [], take, length}
use Rattle.wb_base.specs.FormFields.{fields_of}
use Rattle.wb_base.specs.ShownFields.{shown_from}
use Rattle.wb_trigger.proofs.visible.marks.Given as goal

abbrev pub invariant-loop-at : goal.invariant-loop-at
invariant-loop-at g l = record {
  within : l.at ≤ length (fields_of l.steps);
  room : length l.marks ≡ 256;
  made : take l.at l.marks ≡ take l.at (shown_from (g.L.Lookup.look l.answers) [] (fields_of l.steps));
}
