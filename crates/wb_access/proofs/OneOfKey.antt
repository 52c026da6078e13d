-- Of the items of a table the one with a key is the only one of that key that a test can find.
use Rattle.std.proofs.Common.{◌≡◌, Bool, true, false, ◌&&◌, List, [], ◌∷◌, map, cond, find, Option, Some, None, refl, sym, ap, ◌∙◌}
use Rattle.std.specs.declared.cmp.Ordering.{Ordering}
use Rattle.std.specs.declared.cmp.Ordering.TheVariants.{Less, Equal, Greater}
use Rattle.std.specs.Ordering.{is_eq, ordering_reverse}
use Rattle.std.specs.Cmp.{IsTotalOrder}
use Rattle.std.specs.List.{AllByRecursion}
use Rattle.std.specs.List.Sorted.{IsStrictlySortedBy}
use Rattle.wb_list.specs.Keyed.{IsAscending, has_key}

-- what is found, where it passes a test
abbrev pub if_passing : {T : Type 0} → (T → Bool) → Option T → Option T
if_passing q None = None
if_passing q (Some x) = cond (q x) (Some x) None

module _ {K T : Type 0} {R : K → K → Ordering} (o : IsTotalOrder R) (key : T → K) (E : K → K → Bool) (ties : (x y : K) → E x y ≡ is_eq (R x y)) (q : T → Bool) where
  none_above : (y : T) (k : K) → R (key y) k ≡ Equal → (zs : List T) → AllByRecursion (λ u. R (key y) u ≡ Less) (map key zs) → find (λ x. E (key x) k && q x) zs ≡ None
  none_above y k same [] all = refl
  none_above y k same (z ∷ zs) all =
      let above : R (key z) k ≡ Greater = o.antisymm (key z) k ∙ ap ordering_reverse (sym (o.congr _ _ (key z) same) ∙ all.0) in
      rw (ties (key z) k, above) (none_above y k same zs all.1)

  pub find-one : (k : K) (xs : List T) → IsAscending R key xs → find (λ x. E (key x) k && q x) xs ≡ if_passing q (find (has_key R key k) xs)
  unfolding IsStrictlySortedBy
  find-one k [] sorted = refl
  find-one k (y ∷ ys) sorted = rw (ties (key y) k) (by (R (key y) k) refl (find-one k ys sorted.1))
    where
      by : (r : Ordering) → R (key y) k ≡ r → find (λ x. E (key x) k && q x) ys ≡ if_passing q (find (has_key R key k) ys) → cond (is_eq r && q y) (Some y) (find (λ x. E (key x) k && q x) ys) ≡ if_passing q (cond (is_eq r) (Some y) (find (has_key R key k) ys))
      by Less e rest = rest
      by Equal e rest = rw (none_above y k e ys sorted.0) refl
      by Greater e rest = rest

  pub found-one : (k : K) (x : T) (xs : List T) → IsAscending R key xs → Some x ≡ find (has_key R key k) xs → q x ≡ true → Some x ≡ find (λ y. E (key y) k && q y) xs
  found-one k x xs sorted found passes = rw (find-one k xs sorted, ← found, passes) refl

  pub refused-one : (k : K) (x : T) (xs : List T) → IsAscending R key xs → Some x ≡ find (has_key R key k) xs → q x ≡ false → None ≡ find (λ y. E (key y) k && q y) xs
  refused-one k x xs sorted found fails = rw (find-one k xs sorted, ← found, fails) refl

  pub absent-one : (k : K) (xs : List T) → IsAscending R key xs → None ≡ find (has_key R key k) xs → None ≡ find (λ y. E (key y) k && q y) xs
  absent-one k xs sorted none = rw (find-one k xs sorted, ← none) refl
