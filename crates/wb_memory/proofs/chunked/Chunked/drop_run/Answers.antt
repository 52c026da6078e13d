use Rattle.std.proofs.Common.{◌≡◌, ◌++◌, not, filter, ap, sym, subst, ◌∙◌, arith}
use Rattle.std.specs.Ordering.{is_eq}
use Rattle.std.proofs.lemmas.List.Elements.{filter-append}
use Rattle.wb_list.specs.Keyed.{IsAscending}
use Rattle.wb_list.proofs.KeyedLemmas.{ascending-filter}
use Rattle.wb_memory.specs.Chunks.{joined}
use Rattle.wb_list.proofs.LastItems.{ascending_back}
use Rattle.wb_memory.proofs.chunked.Chunked.drop_run.Goals as goal

pub bounds-start-requires-clause-ascending : goal.bounds-start-requires-clause-ascending
bounds-start-requires-clause-ascending g c =
    ascending_back g.T.Key.Ord.cmp g.T.Keyed.key_of c.self.inside.first.items (joined c.self.inside.later.items) c.self.invariant.ascending

pub invariant_of-self : goal.invariant_of-self
invariant_of-self g c =
    let first = c.self.inside.first.items in
    let later = joined c.self.inside.later.items in
    let made : c.drop_run.new.self.items ++ joined c.drop_between.new.chunks.items ≡ filter (λ item. not (is_eq (g.X.ItemRun.side c.args.run.now item))) (first ++ later) =
    ap (λ t. t ++ joined c.drop_between.new.chunks.items) c.drop_run.ensures.items
    ∙ (ap (λ t. filter (λ item. not (is_eq (g.X.ItemRun.side c.args.run.now item))) first ++ t) c.drop_between.ensures.items ∙ sym (filter-append (λ item. not (is_eq (g.X.ItemRun.side c.args.run.now item))) first later)) in
    record {
      ascending = subst (λ t. IsAscending g.T.Key.Ord.cmp g.T.Keyed.key_of t) (sym made) (ascending-filter g.T.Key.Ord.cmp g.T.Keyed.key_of (λ item. not (is_eq (g.X.ItemRun.side c.args.run.now item))) (first ++ later) c.self.invariant.ascending);
      filled = c.drop_between.ensures.filled;
      ready = c.self.invariant.ready;
      placed = omega (arith, c.self.invariant.placed, c.drop_between.ensures.count, c.drop_between.ensures.places);
    }
