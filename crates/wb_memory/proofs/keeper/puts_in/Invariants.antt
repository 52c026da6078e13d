use Rattle.std.proofs.Common.{◌≡◌, ◌+◌, ◌≤◌, drop}
use Rattle.wb_memory.specs.Parts.{puts}
use Rattle.wb_memory.proofs.keeper.puts_in.Given as goal

abbrev pub invariant-loop-change : goal.invariant-loop-change
invariant-loop-change l = record {
  counted : l.count + puts (drop l.change-index l.changes) ≡ puts l.changes;
  few : l.count ≤ l.change-index;
}
