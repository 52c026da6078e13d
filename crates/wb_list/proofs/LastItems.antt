-- The last items of a list: what lies above the last of ascending items lies above all, and what moving some from the end leaves.
use Rattle.std.proofs.Common.{◌≡◌, ℕ, ◌-◌, ◌<◌, List, [], ◌∷◌, ◌++◌, length, get_or, map, slice_get, reverse, All, Some, inl, inr, sym, ap, subst, ◌∙◌, arith}
use Rattle.std.specs.declared.cmp.Ordering.{Ordering}
use Rattle.std.specs.declared.cmp.Ordering.TheVariants.{Less}
use Rattle.std.specs.Cmp.{IsTotalOrder}
use Rattle.std.specs.List.{AllByRecursion}
use Rattle.std.specs.List.Sorted.{IsStrictlySortedBy}
use Rattle.std.proofs.lemmas.Bool.{cases_lt}
use Rattle.std.proofs.lemmas.List.{get_or-map, length-map, append_assoc, reverse-append}
use Rattle.std.proofs.lemmas.Map.Keys.{Less-from_sorted}
use Rattle.std.proofs.lemmas.Option.{get_or_from_slice_get, slice_get_within}
use Rattle.wb_list.specs.Keyed.{IsAscending}

module _ {X : Type 0} where
  -- one more item goes from the end of a list to the front of what was moved, which stands the other way round
  pub moved_one : (xs ys zs : List X) (x : X) → (xs ++ x ∷ []) ++ reverse ys ≡ zs → xs ++ reverse (ys ++ x ∷ []) ≡ zs
  moved_one xs ys zs x e = ap (λ t. xs ++ t) (reverse-append ys (x ∷ [])) ∙ (sym (append_assoc xs (x ∷ []) (reverse ys)) ∙ e)

module _ {K T : Type 0} (R : K → K → Ordering) (key : T → K) where
  pub all_front : (P : K → Type 0) (xs ys : List T) → AllByRecursion P (map key (xs ++ ys)) → AllByRecursion P (map key xs)
  all_front P [] ys all = tt
  all_front P (x ∷ xs) ys all = (all.0, all_front P xs ys all.1)

  pub all_back : (P : K → Type 0) (xs ys : List T) → AllByRecursion P (map key (xs ++ ys)) → AllByRecursion P (map key ys)
  all_back P [] ys all = all
  all_back P (x ∷ xs) ys all = all_back P xs ys all.1

  -- a front of ascending items, and what is behind it
  pub ascending_front : (xs ys : List T) → IsAscending R key (xs ++ ys) → IsAscending R key xs
  unfolding IsStrictlySortedBy
  ascending_front [] ys sorted = tt
  ascending_front (x ∷ xs) ys sorted = (all_front (λ k. R (key x) k ≡ Less) xs ys sorted.0, ascending_front xs ys sorted.1)

  pub ascending_back : (xs ys : List T) → IsAscending R key (xs ++ ys) → IsAscending R key ys
  unfolding IsStrictlySortedBy
  ascending_back [] ys sorted = sorted
  ascending_back (x ∷ xs) ys sorted = ascending_back xs ys sorted.1

  before_last : (xs : List T) (i : ℕ) (d : T) → IsAscending R key xs → i < length xs - 1 → R (key (get_or xs i d)) (key (get_or xs (length xs - 1) d)) ≡ Less
  before_last xs i d sorted low =
      let here = get_or-map key xs i d (key d) (omega arith) in
      let end = get_or-map key xs (length xs - 1) d (key d) (omega arith) in
      let n = length-map xs key in
      let less = Less-from_sorted R (map key xs) i (length xs - 1) (key d) sorted low (omega (arith, n)) in
      rw (← here, ← end) less

  pub above_all : IsTotalOrder R → (xs : List T) (last x : T) → IsAscending R key xs → slice_get xs (length xs - 1) ≡ Some last → R (key last) (key x) ≡ Less → All (λ y. R (key y) (key x) ≡ Less) xs
  above_all o xs last x sorted is less i d low =
      let at : get_or xs (length xs - 1) d ≡ last = get_or_from_slice_get xs (length xs - 1) last d is in
      let end : R (key (get_or xs (length xs - 1) d)) (key x) ≡ Less = subst (λ (y : T). R (key y) (key x) ≡ Less) (sym at) less in
      elim (cases_lt i (length xs - 1)) [
        | inl before ↦ o.trans (key (get_or xs i d)) (key (get_or xs (length xs - 1) d)) (key x) (before_last xs i d sorted before) end
        | inr after ↦ let same : length xs - 1 ≡ i = omega arith in subst (λ k. R (key (get_or xs k d)) (key x) ≡ Less) same end
      ]

  pub all_at_last : (xs : List T) (last x : T) → slice_get xs (length xs - 1) ≡ Some last → All (λ y. R (key y) (key x) ≡ Less) xs → R (key last) (key x) ≡ Less
  all_at_last xs last x is all =
      let low = slice_get_within xs (length xs - 1) last is in
      subst (λ (y : T). R (key y) (key x) ≡ Less) (get_or_from_slice_get xs (length xs - 1) last last is) (all (length xs - 1) last low)
