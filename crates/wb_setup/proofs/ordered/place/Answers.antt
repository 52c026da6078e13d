use Rattle.std.proofs.Common.{rules}
use Rattle.std.proofs.lemmas.Fn.{always_returns_same}
use Rattle.wb_list.proofs.KeyedLemmas.{searched}
use Rattle.wb_setup.proofs.ordered.place.Goals as goal

pub returns : goal.returns
returns g c =
    let facts = c.binary_search_by.ensures in
    let by_key = facts.position (λ item. g.T.Key.Ord.cmp (g.T.Placed.key_of item) c.args.key.now) (always_returns_same _ _ _ (λ a r h called. search rules)) in
    searched g.met.T.Key.Ord.total g.T.Placed.key_of _ c.args.key.now c.requires _ facts.bound by_key
