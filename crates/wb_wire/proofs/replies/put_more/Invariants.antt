-- What is written with the names that are left is all, and it fits.
use Rattle.std.proofs.Common.{◌≡◌, ◌++◌, ◌+◌, ◌≤◌, drop, length}
use Rattle.std.specs.List.{flat_map}
use Rattle.wb_wire.specs.Paths.{methods_of, more_name}
use Rattle.wb_wire.proofs.replies.put_more.Given as goal

abbrev pub invariant-loop-allowed : goal.invariant-loop-allowed
invariant-loop-allowed l = record {
  all : l.head ++ flat_map more_name (methods_of (drop l.allowed-index l.methods)) ≡ l.fn.head ++ flat_map more_name (methods_of l.methods);
  room : length l.head + length (flat_map more_name (methods_of (drop l.allowed-index l.methods))) ≤ 256;
}
