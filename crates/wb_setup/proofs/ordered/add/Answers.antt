use Rattle.wb_list.proofs.KeyedLemmas.{ascending-insert_item}
use Rattle.wb_setup.proofs.ordered.add.Goals as goal

pub returns-clause-order : goal.returns-clause-order
returns-clause-order g c = rw (c.put.ensures, c.reserve.ensures.items) (ascending-insert_item g.met.T.Key.Ord.total g.T.Placed.key_of c.args.items.now.items c.args.item c.requires)
