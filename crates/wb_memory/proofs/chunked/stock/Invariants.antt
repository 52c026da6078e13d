use Rattle.std.proofs.Common.{◌≡◌, ℕ, ◌≤◌, length}
use Rattle.std.specs.List.{AllByRecursion}
use Rattle.wb_memory.specs.Chunks.{IsReady}
use Rattle.wb_memory.proofs.chunked.stock.Given as goal

abbrev pub invariant-loop : goal.invariant-loop
invariant-loop g l = record {
  ready : AllByRecursion IsReady l.spare.items;
  count : length l.spare.items ≡ l.counter;
  kept : length l.fn.spare.items ≤ length l.spare.items;
  bound : (most : ℕ) → length l.fn.spare.items ≤ most → l.n ≤ most → length l.spare.items ≤ most;
}
