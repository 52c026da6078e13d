use Rattle.std.proofs.Common.{◌≡◌, ◌+◌, ◌≤◌, ◌++◌, length, reverse}
use Rattle.std.specs.Vec.{vec_capacity}
use Rattle.wb_list.proofs.sorted.move_back.Given as goal

abbrev pub invariant-loop : goal.invariant-loop
invariant-loop g l = record {
  list : l.items.items ++ reverse l.into.items ≡ l.fn.items.items;
  moved : length l.into.items ≡ l.counter;
  left : length l.items.items + l.counter ≡ length l.fn.items.items;
  from : vec_capacity l.items ≡ vec_capacity l.fn.items;
  to : vec_capacity l.fn.into ≤ vec_capacity l.into;
}
