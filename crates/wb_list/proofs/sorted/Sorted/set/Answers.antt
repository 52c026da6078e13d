use Rattle.std.proofs.Common.{ap, sym}
use Rattle.wb_list.specs.Room.{Room}
use Rattle.wb_list.proofs.KeyedLemmas.{set_at_place, insert_in_gap, ascending-insert_item}
use Rattle.wb_list.proofs.KeyedLookups.{find-after}
use Rattle.wb_list.proofs.sorted.Sorted.set.Goals as goal

pub returns-in-Ok-clause-items : goal.returns-in-Ok-clause-items
returns-in-Ok-clause-items g c =
    let same = ap (λ (r : Room _). r.items) c.self.view_is in
    let placed = set_at_place g.met.T.Key.Ord.total g.T.Keyed.key_of c.self.inside.items.items c.args.item _ c.self.invariant (rw (← same) at c.in-Ok.ensures.found) in
    rw (← same) (sym placed)

pub invariant_of-self : goal.invariant_of-self
invariant_of-self g c =
    let same = ap (λ (r : Room _). r.items) c.self.view_is in
    rw (returns-in-Ok-clause-items g c, ← same) (ascending-insert_item g.met.T.Key.Ord.total g.T.Keyed.key_of _ c.args.item c.self.invariant)

pub returns-in-Err-clause-items : goal.returns-in-Err-clause-items
returns-in-Err-clause-items g c =
    let same = ap (λ (r : Room _). r.items) c.self.view_is in
    let placed = insert_in_gap g.met.T.Key.Ord.total g.T.Keyed.key_of _ c.args.item _ c.in-Err.ensures.absent in
    rw placed (rw (← same) (rw c.unwrap.ensures at c.insert-inserted.ensures.items))

pub invariant_of-self-in-Err : goal.invariant_of-self-in-Err
invariant_of-self-in-Err g c =
    let same = ap (λ (r : Room _). r.items) c.self.view_is in
    rw (returns-in-Err-clause-items g c, ← same) (ascending-insert_item g.met.T.Key.Ord.total g.T.Keyed.key_of _ c.args.item c.self.invariant)

pub returns-in-Ok-clause-found : goal.returns-in-Ok-clause-found
returns-in-Ok-clause-found g c key = rw (returns-in-Ok-clause-items g c) (find-after g.met.T.Key.Ord.total g.T.Keyed.key_of c.args.self.now.items c.args.item key)

pub returns-in-Err-clause-found : goal.returns-in-Err-clause-found
returns-in-Err-clause-found g c key = rw (returns-in-Err-clause-items g c) (find-after g.met.T.Key.Ord.total g.T.Keyed.key_of c.args.self.now.items c.args.item key)
