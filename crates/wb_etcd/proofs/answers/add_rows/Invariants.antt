use Rattle.std.proofs.Common.{◌≡◌, ◌++◌, List, map, take}
use Rattle.serde_json.specs.View.{view, items_of}
use Rattle.wb_base.specs.declared.rows.Row.{Row}
use Rattle.wb_etcd.specs.Answers.{AreRowsOf}
use Rattle.wb_etcd.proofs.answers.add_rows.Given as goal

-- the rows that were added are those that were told so far
abbrev pub invariant-loop-told : goal.invariant-loop-told
invariant-loop-told l = (piece : List Row) × (l.rows.items ≡ l.fn.rows.items ++ piece) × AreRowsOf l.prefix (items_of (map view (take l.told-index l.items))) piece
