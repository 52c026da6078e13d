use Rattle.std.proofs.Common.{ap}
use Rattle.wb_list.specs.Room.{Room}
use Rattle.wb_list.proofs.KeyedLemmas.{ascending-push}
use Rattle.wb_list.proofs.sorted.Sorted.push.Goals as goal

pub invariant_of-self : goal.invariant_of-self
invariant_of-self g c =
    let same = ap (λ (r : Room _). r.items) c.self.view_is in
    rw (rw c.unwrap.ensures at c.push-pushed.ensures.items) (ascending-push g.met.T.Key.Ord.total g.T.Keyed.key_of _ c.args.item c.self.invariant (rw (← same) at c.requires.last))
