use Rattle.std.proofs.Common.{ap, sym, ◌∙◌, Some}
use Rattle.wb_list.specs.Room.{Room}
use Rattle.wb_list.proofs.KeyedLemmas.{find_at_place, find_in_gap}
use Rattle.wb_list.proofs.sorted.Sorted.find.Goals as goal

pub returns-in-Ok-clause-item : goal.returns-in-Ok-clause-item
returns-in-Ok-clause-item g c =
    let same = ap (λ (r : Room _). r.items) c.self.view_is in
    let found = find_at_place g.met.T.Key.Ord.total g.T.Keyed.key_of _ c.args.key.now _ c.index.result.now c.self.invariant (rw (← same) at c.in-Ok.ensures.found) in
    rw (← same) (ap (λ item. Some item) c.index.ensures ∙ sym found)

pub returns-in-Err-clause-item : goal.returns-in-Err-clause-item
returns-in-Err-clause-item g c = sym (find_in_gap g.met.T.Key.Ord.total g.T.Keyed.key_of _ _ _ c.in-Err.ensures.absent)

pub returns-in-Ok-clause-ascending : goal.returns-in-Ok-clause-ascending
returns-in-Ok-clause-ascending g c = rw (← ap (λ (r : Room _). r.items) c.self.view_is) c.self.invariant

pub returns-in-Err-clause-ascending : goal.returns-in-Err-clause-ascending
returns-in-Err-clause-ascending g c = rw (← ap (λ (r : Room _). r.items) c.self.view_is) c.self.invariant
