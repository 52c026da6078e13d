use Rattle.std.proofs.Common.{ap, sym, ◌∙◌, Some}
use Rattle.wb_list.specs.Room.{Room}
use Rattle.wb_list.proofs.FirstItems.{remove_first, without_none, find_first, find_none}
use Rattle.wb_list.proofs.KeyedLemmas.{ascending-without_first}
use Rattle.wb_list.proofs.sorted.Sorted.take_first.Goals as goal

pub returns-in-Some-clause-item : goal.returns-in-Some-clause-item
returns-in-Some-clause-item g c =
    let same = ap (λ (r : Room _). r.items) c.self.view_is in
    rw (← same) (ap (λ item. Some item) c.remove-first.ensures.value ∙ sym (find_first _ _ _ c.remove-first.result (rw (← same) at (sym c.in-Some.ensures))))

pub returns-in-Some-clause-items : goal.returns-in-Some-clause-items
returns-in-Some-clause-items g c =
    let same = ap (λ (r : Room _). r.items) c.self.view_is in
    rw (← same) (c.remove-first.ensures.items ∙ remove_first _ _ _ (rw (← same) at (sym c.in-Some.ensures)))

pub invariant_of-self : goal.invariant_of-self
invariant_of-self g c =
    let same = ap (λ (r : Room _). r.items) c.self.view_is in
    rw (returns-in-Some-clause-items g c, ← same) (ascending-without_first g.T.Key.Ord.cmp g.T.Keyed.key_of _ _ c.self.invariant)

pub returns-in-None-clause-item : goal.returns-in-None-clause-item
returns-in-None-clause-item g c = sym (find_none (g.X.ItemTest.passes c.args.test.now) c.args.self.now.items (sym c.in-None.ensures))

pub returns-in-None-clause-items : goal.returns-in-None-clause-items
returns-in-None-clause-items g c = sym (without_none (g.X.ItemTest.passes c.args.test.now) c.args.self.now.items (sym c.in-None.ensures))
