-- No member before is `close`.
use Rattle.std.proofs.Common.{◌≡◌, ℕ, ◌+◌, List, length, Option, Some, None}
use Rattle.std.specs.List.{list_any}
use Rattle.std.specs.Borrow.{Bor}
use Rattle.wb_model.specs.Heads.{is_close, says_close}
use Rattle.wb_wire.specs.Cuts.{cut_if}
use Rattle.wb_wire.proofs.closing.says_close.Given as goal

abbrev size_left : Option (Bor (List ℕ)) → ℕ
size_left None = 0
size_left (Some list) = length list.now + 1

abbrev pub invariant-loop-left : goal.invariant-loop-left
invariant-loop-left l = list_any is_close (cut_if 44 l.left) ≡ says_close l.value

abbrev pub decreases-loop-left : goal.decreases-loop-left
decreases-loop-left l = size_left l.left
