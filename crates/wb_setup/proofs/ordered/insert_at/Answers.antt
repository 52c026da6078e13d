use Rattle.wb_list.proofs.KeyedLemmas.{insert_in_gap}
use Rattle.wb_setup.proofs.ordered.insert_at.Goals as goal

pub returns : goal.returns
returns g c =
    let placed = insert_in_gap g.met.T.Key.Ord.total g.T.Placed.key_of c.args.items.now.items c.args.item c.args.at c.requires.gap in
    rw placed (rw c.unwrap.ensures at c.insert-inserted.ensures.items)
