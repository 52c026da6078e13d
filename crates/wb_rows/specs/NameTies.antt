-- Two users have the same name where the tenant and the name are the same in order.
use Rattle.std.specs.Prelude.{◌≡◌, ℕ, List}
use mathlib.Core.Path.{◌∙◌}
use Rattle.std.specs.Cmp.{IsTotalOrder, both_tied, unsigned_ties, nat_cmp_total, then_total, on_total}
use Rattle.std.specs.Cmp.Lexicographic.{texts_ties, slice_cmp, nat_list_cmp_total}
use Rattle.std.specs.Ordering.{is_eq, nat_cmp, ordering_then}
use Rattle.std.specs.declared.cmp.Ordering.{Ordering}
use Rattle.std.proofs.lemmas.Cmp.{eq_by_cmp_equiv}
use Rattle.wb_model.specs.declared.registry.UserItem.{UserItem}
use Rattle.wb_model.specs.SetUps.{same_user_name}

abbrev pub place_cmp : ℕ × List ℕ → ℕ × List ℕ → Ordering
place_cmp a b = ordering_then (nat_cmp a.0 b.0) (slice_cmp nat_cmp a.1 b.1)

pub place_total : IsTotalOrder place_cmp
place_total = then_total (on_total (λ (p : ℕ × List ℕ). p.0) nat_cmp_total) (on_total (λ (p : ℕ × List ℕ). p.1) nat_list_cmp_total)

pub names_tie : (x y : UserItem) → same_user_name x y ≡ is_eq (place_cmp (y.tenant, y.name) (x.tenant, x.name))
names_tie x y = both_tied _ _ _ _ (unsigned_ties x.tenant y.tenant) (texts_ties x.name y.name) ∙ (eq_by_cmp_equiv place_total).symm (x.tenant, x.name) (y.tenant, y.name)
