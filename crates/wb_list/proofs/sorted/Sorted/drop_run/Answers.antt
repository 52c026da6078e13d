use Rattle.std.proofs.Common.{ap, not, rules}
use Rattle.std.proofs.lemmas.Fn.{filter_same}
use Rattle.std.specs.Ordering.{is_eq}
use Rattle.wb_list.specs.Room.{Room}
use Rattle.wb_list.proofs.KeyedLemmas.{ascending-filter}
use Rattle.wb_list.proofs.sorted.Sorted.drop_run.Goals as goal

pub returns-clause-items : goal.returns-clause-items
returns-clause-items g c =
    let same = ap (λ (r : Room _). r.items) c.self.view_is in
    rw (← same) (filter_same _ (λ item. not (is_eq (g.X.ItemRun.side c.args.run.now item))) _ (λ s b f' called. (search rules, search rules)) _ _ c.retain.ensures.filtered)

pub invariant_of-self : goal.invariant_of-self
invariant_of-self g c =
    let same = ap (λ (r : Room _). r.items) c.self.view_is in
    rw (returns-clause-items g c, ← same) (ascending-filter g.T.Key.Ord.cmp g.T.Keyed.key_of _ _ c.self.invariant)
