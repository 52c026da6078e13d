use Rattle.std.proofs.Common.{◌≡◌, ◌≤◌, ◌++◌, not, filter, length, take, drop}
use Rattle.std.specs.Ordering.{is_eq}
use Rattle.std.specs.Vec.{vec_capacity}
use Rattle.wb_memory.specs.Chunks.{joined, AreFilled}
use Rattle.wb_memory.proofs.chunked.drop_between.Given as goal

abbrev pub invariant-loop-at : goal.invariant-loop-at
invariant-loop-at g l = record {
  low : l.start ≤ l.at;
  high : l.at ≤ length l.chunks.items;
  front : take l.start l.chunks.items ≡ take l.start l.fn.chunks.items;
  left : filter (λ item. not (is_eq (g.X.ItemRun.side l.run item))) (joined (take l.at l.chunks.items)) ++ joined (drop l.at l.chunks.items) ≡ filter (λ item. not (is_eq (g.X.ItemRun.side l.run item))) (joined l.fn.chunks.items);
  filled : AreFilled l.chunks.items;
  count : length l.chunks.items ≤ length l.fn.chunks.items;
  places : vec_capacity l.chunks ≡ vec_capacity l.fn.chunks;
}

abbrev pub decreases-loop-at : goal.decreases-loop-at
decreases-loop-at g l = l.at
