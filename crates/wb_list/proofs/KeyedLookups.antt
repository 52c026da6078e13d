-- What look-ups find after an edit of a table.
use Rattle.std.proofs.Common.{◌≡◌, ◌≢◌, false, List, [], ◌∷◌, map, cond, find, filter, not, Some, None, refl, sym, ap, ◌∙◌}
use Rattle.std.specs.declared.cmp.Ordering.{Ordering}
use Rattle.std.specs.declared.cmp.Ordering.TheVariants.{Less, Equal, Greater}
use Rattle.std.specs.Ordering.{is_eq, match_ordering}
use Rattle.std.specs.Cmp.{IsTotalOrder}
use Rattle.std.specs.List.{AllByRecursion}
use Rattle.std.specs.List.Sorted.{IsStrictlySortedBy}
use Rattle.std.proofs.lemmas.Cmp.{alike_right}
use Rattle.wb_list.specs.Keyed.{IsAscending, has_key, insert_item, without_first}

not_equal : (r : Ordering) → r ≢ Equal → is_eq r ≡ false
not_equal Less ne = refl
not_equal Equal ne = absurd (ne refl)
not_equal Greater ne = refl

module _ {K T : Type 0} {R : K → K → Ordering} (o : IsTotalOrder R) (key : T → K) where
  -- the item that was put is found under its key
  pub find-inserted : (xs : List T) (x : T) (k : K) → R (key x) k ≡ Equal → find (has_key R key k) (insert_item R key xs x) ≡ Some x
  find-inserted [] x k here = rw here refl
  find-inserted (y ∷ ys) x k here =
      elim (R (key y) (key x)) as (λ r. R (key y) (key x) ≡ r → find (has_key R key k) (match_ordering r (y ∷ insert_item R key ys x) (x ∷ ys) (x ∷ y ∷ ys)) ≡ Some x) [
        | Less ↦ λ less. rw (sym (alike_right o _ _ (key y) here) ∙ less) (find-inserted ys x k here)
        | Equal ↦ λ _. rw here refl
        | Greater ↦ λ _. rw here refl
      ] refl

  -- and every other key finds what it found
  pub find-beside : (xs : List T) (x : T) (k : K) → R (key x) k ≢ Equal → find (has_key R key k) (insert_item R key xs x) ≡ find (has_key R key k) xs
  find-beside [] x k other = rw (not_equal (R (key x) k) other) refl
  find-beside (y ∷ ys) x k other =
      elim (R (key y) (key x)) as (λ r. R (key y) (key x) ≡ r → find (has_key R key k) (match_ordering r (y ∷ insert_item R key ys x) (x ∷ ys) (x ∷ y ∷ ys)) ≡ find (has_key R key k) (y ∷ ys)) [
        | Less ↦ λ _. ap (λ rest. cond (has_key R key k y) (Some y) rest) (find-beside ys x k other)
        | Equal ↦ λ same. rw (not_equal (R (key x) k) other, not_equal (R (key y) k) (λ e. other (sym (o.congr _ _ k same) ∙ e))) refl
        | Greater ↦ λ _. rw (not_equal (R (key x) k) other) refl
      ] refl

  -- so a look-up finds the item that was put under its key, and else what it found
  pub find-after : (xs : List T) (x : T) (k : K) → find (has_key R key k) (insert_item R key xs x) ≡ cond (has_key R key k x) (Some x) (find (has_key R key k) xs)
  find-after xs x k =
      elim (R (key x) k) as (λ r. R (key x) k ≡ r → find (has_key R key k) (insert_item R key xs x) ≡ cond (is_eq r) (Some x) (find (has_key R key k) xs)) [
        | Less ↦ λ less. find-beside xs x k (λ same. cc (less, same))
        | Equal ↦ λ same. find-inserted xs x k same
        | Greater ↦ λ above. find-beside xs x k (λ same. cc (above, same))
      ] refl

  none_below : (xs : List T) (k : K) → AllByRecursion (λ q. R k q ≡ Less) (map key xs) → find (has_key R key k) xs ≡ None
  none_below [] k all = refl
  none_below (y ∷ ys) k all = rw (not_equal (R (key y) k) (λ e. not_both e all.0)) (none_below ys k all.1)
    where
      not_both : R (key y) k ≡ Equal → R k (key y) ≡ Less → ⊥
      not_both e less = cc (o.antisymm (key y) k, e, less)

  -- keys above a key are above one that ties with it
  moved : (y : T) (k : K) → R (key y) k ≡ Equal → (zs : List T) → AllByRecursion (λ q. R (key y) q ≡ Less) (map key zs) → AllByRecursion (λ q. R k q ≡ Less) (map key zs)
  moved y k same [] all = tt
  moved y k same (z ∷ zs) all = (sym (o.congr _ _ (key z) same) ∙ all.0, moved y k same zs all.1)

  kept_above : (xs : List T) (k : K) → AllByRecursion (λ q. R k q ≡ Less) (map key xs) → filter (λ x. not (has_key R key k x)) xs ≡ xs
  kept_above [] k all = refl
  kept_above (y ∷ ys) k all = rw (not_equal (R (key y) k) (λ e. not_both e all.0)) (ap (λ t. y ∷ t) (kept_above ys k all.1))
    where
      not_both : R (key y) k ≡ Equal → R k (key y) ≡ Less → ⊥
      not_both e less = cc (o.antisymm (key y) k, e, less)

  -- the one item of a key is all that goes
  pub filter-others : (xs : List T) (k : K) → IsAscending R key xs → without_first (has_key R key k) xs ≡ filter (λ x. not (has_key R key k x)) xs
  unfolding IsStrictlySortedBy
  filter-others [] k sorted = refl
  filter-others (y ∷ ys) k sorted =
      elim (R (key y) k) as (λ r. R (key y) k ≡ r → cond (is_eq r) ys (y ∷ without_first (has_key R key k) ys) ≡ cond (not (is_eq r)) (y ∷ filter (λ x. not (has_key R key k x)) ys) (filter (λ x. not (has_key R key k x)) ys)) [
        | Less ↦ λ _. ap (λ t. y ∷ t) (filter-others ys k sorted.1)
        | Equal ↦ λ same. sym (kept_above ys k (moved y k same ys sorted.0))
        | Greater ↦ λ _. ap (λ t. y ∷ t) (filter-others ys k sorted.1)
      ] refl

  -- what was taken out is found no more
  pub find-taken : (xs : List T) (k : K) → IsAscending R key xs → find (has_key R key k) (without_first (has_key R key k) xs) ≡ None
  unfolding IsStrictlySortedBy
  find-taken [] k sorted = refl
  find-taken (y ∷ ys) k sorted =
      elim (R (key y) k) as (λ r. R (key y) k ≡ r → find (has_key R key k) (cond (is_eq r) ys (y ∷ without_first (has_key R key k) ys)) ≡ None) [
        | Less ↦ λ less. rw less (find-taken ys k sorted.1)
        | Equal ↦ λ same. none_below ys k (moved y k same ys sorted.0)
        | Greater ↦ λ above. rw above (find-taken ys k sorted.1)
      ] refl

  -- and every other key finds what it found
  pub find-left : (xs : List T) (j k : K) → ((x : T) → R (key x) j ≡ Equal → R (key x) k ≢ Equal) → find (has_key R key j) (without_first (has_key R key k) xs) ≡ find (has_key R key j) xs
  find-left [] j k apart = refl
  find-left (y ∷ ys) j k apart =
      elim (R (key y) k) as (λ r. R (key y) k ≡ r → find (has_key R key j) (cond (is_eq r) ys (y ∷ without_first (has_key R key k) ys)) ≡ find (has_key R key j) (y ∷ ys)) [
        | Less ↦ λ _. ap (λ rest. cond (has_key R key j y) (Some y) rest) (find-left ys j k apart)
        | Equal ↦ λ same. rw (not_equal (R (key y) j) (λ e. apart y e same)) refl
        | Greater ↦ λ _. ap (λ rest. cond (has_key R key j y) (Some y) rest) (find-left ys j k apart)
      ] refl
