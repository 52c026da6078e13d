use Rattle.std.proofs.Common.{◌≡◌, ◌≤◌, length, drop}
use Rattle.wb_rows.specs.Blame.{first_repeated}
use Rattle.wb_rows.specs.Marks.{AreMarks}
use Rattle.wb_rows.proofs.repeated.first_repeated.Given as goal

abbrev pub invariant-loop-at : goal.invariant-loop-at
invariant-loop-at g l = record {
  within : l.at ≤ length l.items;
  marks : AreMarks g.T.Mark.Ord.cmp g.T.Marked.mark_of l.marks (drop l.at l.items);
  found : l.found ≡ first_repeated g.T.Marked.same g.T.Marked.key_of (drop l.at l.items);
}

abbrev pub decreases-loop-at : goal.decreases-loop-at
decreases-loop-at g l = l.at
