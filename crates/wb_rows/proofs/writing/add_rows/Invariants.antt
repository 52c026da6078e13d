use Rattle.std.proofs.Common.{◌≡◌, ◌++◌, take, map}
use Rattle.wb_rows.proofs.writing.add_rows.Given as goal

abbrev pub invariant-loop-item : goal.invariant-loop-item
invariant-loop-item g l = l.rows.items ≡ l.initial.rows.items ++ map g.T.Rowed.row_of (take l.item-index l.items)
