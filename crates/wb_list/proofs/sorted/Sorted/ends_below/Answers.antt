use Rattle.std.proofs.Common.{rules, ◌≡◌, Some, length, ◌-◌, slice_get, ap, sym, ◌∙◌}
use Rattle.std.specs.Ordering.{is_lt}
use Rattle.wb_list.specs.Room.{Room}
use Rattle.wb_list.proofs.LastItems.{above_all, all_at_last}
use Rattle.wb_list.proofs.Sides.{is_less}
use Rattle.wb_list.proofs.sorted.Sorted.ends_below.Goals as goal

pub returns-in-Some : goal.returns-in-Some
returns-in-Some g c =
    let R = g.T.Key.Ord.cmp in
    let key = g.T.Keyed.key_of in
    let items = c.self.inside.items.items in
    let last = c.in-Some.last.now in
    let item = c.args.item.now in
    let same = ap (λ (r : Room _). r.items) c.self.view_is in
    let is : slice_get items (length items - 1) ≡ Some last = search rules in
    let told : c.is_lt.result ≡ is_lt (R (key last) (key item)) = c.is_lt.ensures ∙ ap is_lt c.compare_to.ensures in
    rw (← same) (
      λ below. above_all R key g.met.T.Key.Ord.total items last item c.self.invariant is (is_less (R (key last) (key item)) (sym told ∙ below)),
      λ all. told ∙ ap is_lt (all_at_last R key items last item is all),
    )
