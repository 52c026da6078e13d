use Rattle.std.proofs.Common.{◌≡◌, ◌≤◌}
use Rattle.std.specs.Vec.Iter.{into_iter_items}
use Rattle.wb_base.specs.KeptRows.{all_changed}
use Rattle.wb_memory.specs.Parts.{puts}
use Rattle.wb_memory.proofs.keeper.make_all.Given as goal

abbrev pub invariant-loop-change : goal.invariant-loop-change
invariant-loop-change l = record {
  can : (goal.iterator-loop-change).can_next l.change-iterator;
  finite : (goal.iterator-loop-change).is_finite l.change-iterator;
  room : puts (into_iter_items l.change-iterator) ≤ l.rows.spare;
  made : all_changed l.rows.items (into_iter_items l.change-iterator) ≡ all_changed l.fn.rows.items l.fn.changes.items;
}
