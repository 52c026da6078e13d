use Rattle.std.proofs.Common.{◌≡◌, drop, nat_le}
use Rattle.wb_base.specs.FormFields.{fields_of, parts_of, least_of}
use Rattle.wb_base.specs.ShownFields.{points_met}
use Rattle.wb_trigger.specs.Marks.{any_shown}
use Rattle.wb_trigger.proofs.visible.is_triggered.Given as goal

abbrev pub invariant-loop-at : goal.invariant-loop-at
invariant-loop-at g l =
    nat_le l.missing (points_met (any_shown (fields_of l.steps) l.marks) (g.L.Lookup.look l.answers) (drop l.at (parts_of l.show))) ≡ nat_le (least_of l.show) (points_met (any_shown (fields_of l.steps) l.marks) (g.L.Lookup.look l.answers) (parts_of l.show))
