use Rattle.std.proofs.Common.{ap, sym, ◌∙◌, Some}
use Rattle.wb_list.specs.Room.{Room}
use Rattle.wb_list.proofs.KeyedLemmas.{find_at_place, find_in_gap, remove_at_place, without_absent, ascending-without_first}
use Rattle.wb_list.proofs.KeyedLookups.{find-taken, filter-others}
use Rattle.wb_list.proofs.sorted.Sorted.take.Goals as goal

pub returns-in-Ok-clause-item : goal.returns-in-Ok-clause-item
returns-in-Ok-clause-item g c =
    let same = ap (λ (r : Room _). r.items) c.self.view_is in
    let found = find_at_place g.met.T.Key.Ord.total g.T.Keyed.key_of _ c.args.key.now _ c.remove-item.result c.self.invariant (rw (← same) at c.in-Ok.ensures.found) in
    rw (← same) (ap (λ item. Some item) c.remove-item.ensures.value ∙ sym found)

pub returns-in-Ok-clause-items : goal.returns-in-Ok-clause-items
returns-in-Ok-clause-items g c =
    let same = ap (λ (r : Room _). r.items) c.self.view_is in
    let taken = remove_at_place g.met.T.Key.Ord.total g.T.Keyed.key_of c.self.inside.items.items c.args.key.now _ c.self.invariant (rw (← same) at c.in-Ok.ensures.found) in
    rw (← same) (c.remove-item.ensures.items ∙ sym taken)

pub invariant_of-self : goal.invariant_of-self
invariant_of-self g c =
    let same = ap (λ (r : Room _). r.items) c.self.view_is in
    rw (returns-in-Ok-clause-items g c, ← same) (ascending-without_first g.T.Key.Ord.cmp g.T.Keyed.key_of _ _ c.self.invariant)

pub returns-in-Err-clause-item : goal.returns-in-Err-clause-item
returns-in-Err-clause-item g c = sym (find_in_gap g.met.T.Key.Ord.total g.T.Keyed.key_of _ _ _ c.in-Err.ensures.absent)

pub returns-in-Err-clause-items : goal.returns-in-Err-clause-items
returns-in-Err-clause-items g c = sym (without_absent g.T.Key.Ord.cmp g.T.Keyed.key_of _ _ (find_in_gap g.met.T.Key.Ord.total g.T.Keyed.key_of _ _ _ c.in-Err.ensures.absent))

pub returns-in-Ok-clause-gone : goal.returns-in-Ok-clause-gone
returns-in-Ok-clause-gone g c =
    rw (returns-in-Ok-clause-items g c) (rw (← ap (λ (r : Room _). r.items) c.self.view_is) (find-taken g.met.T.Key.Ord.total g.T.Keyed.key_of _ c.args.key.now c.self.invariant))

pub returns-in-Err-clause-gone : goal.returns-in-Err-clause-gone
returns-in-Err-clause-gone g c = find_in_gap g.met.T.Key.Ord.total g.T.Keyed.key_of _ _ _ c.in-Err.ensures.absent

pub returns-in-Ok-clause-others : goal.returns-in-Ok-clause-others
returns-in-Ok-clause-others g c =
    let same = ap (λ (r : Room _). r.items) c.self.view_is in
    rw (returns-in-Ok-clause-items g c) (rw (← same) (filter-others g.met.T.Key.Ord.total g.T.Keyed.key_of c.self.inside.items.items c.args.key.now c.self.invariant))

pub returns-in-Err-clause-others : goal.returns-in-Err-clause-others
returns-in-Err-clause-others g c =
    let same = ap (λ (r : Room _). r.items) c.self.view_is in
    returns-in-Err-clause-items g c ∙ rw (← same) (filter-others g.met.T.Key.Ord.total g.T.Keyed.key_of c.self.inside.items.items c.args.key.now c.self.invariant)
