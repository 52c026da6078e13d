use Rattle.std.proofs.Common.{sym}
use Rattle.wb_list.proofs.KeyedLemmas.{set_at_place}
use Rattle.wb_setup.proofs.ordered.replace_at.Goals as goal

pub returns : goal.returns
returns g c = sym (set_at_place g.met.T.Key.Ord.total g.T.Placed.key_of c.args.items.now.items c.args.item c.args.at c.requires.order c.requires.place)
