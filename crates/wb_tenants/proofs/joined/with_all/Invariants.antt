use Rattle.std.proofs.Common.{◌≡◌, fold}
use Rattle.std.specs.Vec.Iter.{into_iter_items}
use Rattle.wb_list.specs.Keyed.{IsAscending, insert_item}
use Rattle.wb_tenants.proofs.joined.with_all.Given as goal

abbrev pub invariant-loop-item : goal.invariant-loop-item
invariant-loop-item g l = record {
  rest : fold (insert_item g.T.Key.Ord.cmp g.T.Placed.key_of) l.all.items (into_iter_items l.item-iterator) ≡ fold (insert_item g.T.Key.Ord.cmp g.T.Placed.key_of) l.fn.items l.fn.more;
  order : IsAscending g.T.Key.Ord.cmp g.T.Placed.key_of l.all.items;
}
