use Rattle.std.proofs.Common.{◌≡◌, take}
use Rattle.wb_list.proofs.sorted.Sorted.try_clone.Given as goal

abbrev pub invariant-loop-item : goal.invariant-loop-item
invariant-loop-item g l = l.copy.items ≡ take l.item-index l.item-items
