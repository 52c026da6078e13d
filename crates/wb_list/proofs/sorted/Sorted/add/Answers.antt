use Rattle.std.proofs.Common.{ap}
use Rattle.wb_list.specs.Room.{Room}
use Rattle.wb_list.proofs.KeyedLemmas.{find_at_place, insert_in_gap, ascending-insert_item}
use Rattle.wb_list.proofs.KeyedLookups.{find-after}
use Rattle.wb_list.proofs.sorted.Sorted.add.Goals as goal

pub unreachable-requires : goal.unreachable-requires
unreachable-requires g c =
    let same = ap (λ (r : Room _). r.items) c.self.view_is in
    let found = find_at_place g.met.T.Key.Ord.total g.T.Keyed.key_of _ (g.T.Keyed.key_of c.args.item) _ c.args.item (rw same at c.self.invariant) c.in-Ok.ensures.found in
    cc (found, c.requires.free)

pub returns-clause-items : goal.returns-clause-items
returns-clause-items g c =
    let same = ap (λ (r : Room _). r.items) c.self.view_is in
    let placed = insert_in_gap g.met.T.Key.Ord.total g.T.Keyed.key_of _ c.args.item _ c.in-Err.ensures.absent in
    rw placed (rw (← same) (rw c.unwrap.ensures at c.insert-inserted.ensures.items))

pub invariant_of-self : goal.invariant_of-self
invariant_of-self g c =
    let same = ap (λ (r : Room _). r.items) c.self.view_is in
    rw (returns-clause-items g c, ← same) (ascending-insert_item g.met.T.Key.Ord.total g.T.Keyed.key_of _ c.args.item c.self.invariant)

pub returns-clause-found : goal.returns-clause-found
returns-clause-found g c key = rw (returns-clause-items g c) (find-after g.met.T.Key.Ord.total g.T.Keyed.key_of c.args.self.now.items c.args.item key)
