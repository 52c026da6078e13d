-- Items that ascend by their keys: what a search finds, and what an edit at that place does.
use Rattle.std.proofs.Common.{◌≡◌, ℕ, zero, suc, ◌+◌, ◌<◌, Bool, List, [], ◌∷◌, ◌++◌, length, get_or, set, map, All, cond, true, false, Some, None, Result, Ok, Err, IfOk, IfErr, refl, sym, ap, ◌∙◌, arith}
use Rattle.std.specs.declared.cmp.Ordering.{Ordering}
use Rattle.std.specs.declared.cmp.Ordering.TheVariants.{Less, Equal, Greater}
use Rattle.std.specs.Ordering.{ordering_reverse, is_lt, match_ordering}
use Rattle.std.specs.Cmp.{IsTotalOrder}
use Rattle.std.specs.List.{insert, remove, AllByRecursion, find, filter}
use Rattle.std.specs.List.Sorted.{IsStrictlySortedBy, IsSortedBy, IsSearchInRange, IsBinarySearchResult}
use Rattle.std.proofs.lemmas.Cmp.{alike_right, tied_itself}
use Rattle.std.proofs.lemmas.List.{get_or-map, length-map}
use Rattle.std.proofs.lemmas.Map.Keys.{sorted_head, sorted_tail, Less-from_sorted}
use Rattle.std.proofs.lemmas.List.Elements.{All-from_recursion, All-head, All-tail}
use Rattle.std.proofs.lemmas.List.Sorted.{searchable_from_sorted}
use Rattle.wb_list.specs.Keyed.{IsAscending, has_key, insert_item, IsPlace, IsGap, without_first}

module _ {K : Type 0} {R : K → K → Ordering} (o : IsTotalOrder R) where
  flip_Less : (x y : K) → R x y ≡ Less → R y x ≡ Greater
  flip_Less x y e = o.antisymm y x ∙ ap ordering_reverse e

  flip_Greater : (x y : K) → R x y ≡ Greater → R y x ≡ Less
  flip_Greater x y e = o.antisymm y x ∙ ap ordering_reverse e

module _ {K T : Type 0} {R : K → K → Ordering} (o : IsTotalOrder R) (key : T → K) where
  sorted_from_strict : (xs : List T) → IsAscending R key xs → IsSortedBy (λ a b. is_lt (R (key a) (key b))) xs
  sorted_from_strict xs strict k d low high =
      let here = get_or-map key xs k d (key d) (omega arith) in
      let next = get_or-map key xs (k + 1) d (key d) high in
      let n = length-map xs key in
      let less = Less-from_sorted R (map key xs) k (k + 1) (key d) strict (omega arith) (omega (arith, n)) in
      let less_here : R (key (get_or xs k d)) (key (get_or xs (k + 1) d)) ≡ Less = rw (← here, ← next) less in
      rw (flip_Less o _ _ less_here)

  gap_tail : (x : T) (xs : List T) (q : K) (i : ℕ) → IsGap R key (x ∷ xs) q (suc i) → IsGap R key xs q i
  gap_tail x xs q i gap = record {
    in_range = omega (arith, gap.in_range);
    before = λ j d lt. gap.before (suc j) d (omega arith);
    after = λ j d le lt. gap.after (suc j) d (omega arith) (omega arith);
  }

  pub insert_in_gap : (xs : List T) (x : T) (i : ℕ) → IsGap R key xs (key x) i → insert_item R key xs x ≡ insert xs i x
  insert_in_gap [] x zero gap = refl
  insert_in_gap [] x (suc i) gap = refl
  insert_in_gap (y ∷ ys) x zero gap = rw (gap.after 0 y (omega arith) (omega arith))
  insert_in_gap (y ∷ ys) x (suc i) gap = rw (gap.before 0 y (omega arith)) (ap (λ t. y ∷ t) (insert_in_gap ys x i (gap_tail y ys (key x) i gap)))

  pub find_in_gap : (xs : List T) (q : K) (i : ℕ) → IsGap R key xs q i → find (has_key R key q) xs ≡ None
  find_in_gap [] q i gap = refl
  find_in_gap (y ∷ ys) q zero gap = rw (gap.after 0 y (omega arith) (omega arith)) (find_in_gap ys q zero (record { in_range = omega arith; before = λ j d lt. absurd (omega arith); after = λ j d le lt. gap.after (suc j) d (omega arith) (omega arith) }))
  find_in_gap (y ∷ ys) q (suc i) gap = rw (gap.before 0 y (omega arith)) (find_in_gap ys q i (gap_tail y ys q i gap))

  -- the first key is below that of a later place
  below_later : (y : T) (ys : List T) (q : K) (i : ℕ) (d : T) → IsAscending R key (y ∷ ys) → i < length ys → R (key (get_or ys i d)) q ≡ Equal → R (key y) q ≡ Less
  below_later y ys q i d sorted within has_key =
      let below = (All-from_recursion (λ k. R (key y) k ≡ Less) (map key ys) (sorted_head R (key y) (map key ys) sorted)) i (key d) (omega (arith, length-map ys key)) in
      let below_item : R (key y) (key (get_or ys i d)) ≡ Less = rw (← get_or-map key ys i d (key d) within) below in
      sym (alike_right o _ _ (key y) has_key) ∙ below_item

  pub find_at_place : (xs : List T) (q : K) (i : ℕ) (d : T) → IsAscending R key xs → IsPlace R key xs q i → find (has_key R key q) xs ≡ Some (get_or xs i d)
  find_at_place [] q i d sorted place = absurd (omega (arith, place.in_range))
  find_at_place (y ∷ ys) q zero d sorted place = rw (place.has_key d)
  find_at_place (y ∷ ys) q (suc i) d sorted place =
      let within : i < length ys = omega (arith, place.in_range) in
      rw (below_later y ys q i d sorted within (place.has_key d)) (find_at_place ys q i d (sorted_tail R (key y) (map key ys) sorted) (record { in_range = within; has_key = place.has_key }))

  all-insert_item : (P : K → Type 0) (xs : List T) (x : T) → P (key x) → AllByRecursion P (map key xs) → AllByRecursion P (map key (insert_item R key xs x))
  all-insert_item P [] x p all = (p, tt)
  all-insert_item P (y ∷ ys) x p all =
      elim (R (key y) (key x)) as (λ r. AllByRecursion P (map key (match_ordering r (y ∷ insert_item R key ys x) (x ∷ ys) (x ∷ y ∷ ys)))) [
        | Less ↦ (all.0, all-insert_item P ys x p all.1)
        | Equal ↦ (p, all.1)
        | Greater ↦ (p, all)
      ]

  all_weaker : (P Q : K → Type 0) → ((k : K) → P k → Q k) → (ks : List K) → AllByRecursion P ks → AllByRecursion Q ks
  all_weaker P Q f [] all = tt
  all_weaker P Q f (k ∷ ks) all = (f k all.0, all_weaker P Q f ks all.1)

  -- one more item keeps the order
  pub ascending-insert_item : (xs : List T) (x : T) → IsAscending R key xs → IsAscending R key (insert_item R key xs x)
  unfolding IsStrictlySortedBy
  ascending-insert_item [] x sorted = (tt, tt)
  ascending-insert_item (y ∷ ys) x sorted =
      let rest = ascending-insert_item ys x sorted.1 in
      elim (R (key y) (key x)) as (λ r. R (key y) (key x) ≡ r → IsAscending R key (match_ordering r (y ∷ insert_item R key ys x) (x ∷ ys) (x ∷ y ∷ ys))) [
        | Less ↦ λ less. (all-insert_item (λ k. R (key y) k ≡ Less) ys x less sorted.0, rest)
        | Equal ↦ λ same. (all_weaker (λ k. R (key y) k ≡ Less) (λ k. R (key x) k ≡ Less) (λ k below. sym (o.congr _ _ k same) ∙ below) (map key ys) sorted.0, sorted.1)
        | Greater ↦ λ above. let less = flip_Greater o _ _ above in ((less, all_weaker (λ k. R (key y) k ≡ Less) (λ k. R (key x) k ≡ Less) (λ k below. o.trans _ _ k less below) (map key ys) sorted.0), sorted)
      ] refl

  all-push : (P : K → Type 0) (xs : List T) (x : T) → AllByRecursion P (map key xs) → P (key x) → AllByRecursion P (map key (xs ++ x ∷ []))
  all-push P [] x all p = (p, tt)
  all-push P (y ∷ ys) x all p = (all.0, all-push P ys x all.1 p)

  -- an item above all others keeps the order at the end
  pub ascending-push : (xs : List T) (x : T) → IsAscending R key xs → All (λ y. R (key y) (key x) ≡ Less) xs → IsAscending R key (xs ++ x ∷ [])
  unfolding IsStrictlySortedBy
  ascending-push [] x sorted last = (tt, tt)
  ascending-push (y ∷ ys) x sorted last = (all-push (λ k. R (key y) k ≡ Less) ys x sorted.0 (All-head (λ z. R (key z) (key x) ≡ Less) y ys last), ascending-push ys x sorted.1 (All-tail (λ z. R (key z) (key x) ≡ Less) y ys last))

  pub set_at_place : (xs : List T) (x : T) (i : ℕ) → IsAscending R key xs → IsPlace R key xs (key x) i → insert_item R key xs x ≡ set xs i x
  set_at_place [] x i sorted place = absurd (omega (arith, place.in_range))
  set_at_place (y ∷ ys) x zero sorted place = rw (place.has_key y)
  set_at_place (y ∷ ys) x (suc i) sorted place =
      let within : i < length ys = omega (arith, place.in_range) in
      rw (below_later y ys (key x) i x sorted within (place.has_key x)) (ap (λ t. y ∷ t) (set_at_place ys x i (sorted_tail R (key y) (map key ys) sorted) (record { in_range = within; has_key = place.has_key })))

  -- an item with the same key in its place
  pub change_at_place : (xs : List T) (q : K) (i : ℕ) (x y : T) → IsAscending R key xs → IsPlace R key xs q i → x ≡ get_or xs i x → key y ≡ key x → insert_item R key xs y ≡ set xs i y
  change_at_place xs q i x y sorted place is same =
      let found : R (key x) q ≡ Equal = ap (λ z. R (key z) q) is ∙ place.has_key x in
      set_at_place xs y i sorted (record {
        in_range = place.in_range;
        has_key = λ d. o.congr (key (get_or xs i d)) q (key y) (place.has_key d) ∙ (ap (λ k. R q k) same ∙ (sym (o.congr (key x) q (key x) found) ∙ tied_itself o (key x)));
      })

  pub remove_at_place : (xs : List T) (q : K) (i : ℕ) → IsAscending R key xs → IsPlace R key xs q i → without_first (has_key R key q) xs ≡ remove xs i
  remove_at_place [] q i sorted place = absurd (omega (arith, place.in_range))
  remove_at_place (y ∷ ys) q zero sorted place = rw (place.has_key y)
  remove_at_place (y ∷ ys) q (suc i) sorted place =
      let within : i < length ys = omega (arith, place.in_range) in
      rw (below_later y ys q i y sorted within (place.has_key y)) (ap (λ t. y ∷ t) (remove_at_place ys q i (sorted_tail R (key y) (map key ys) sorted) (record { in_range = within; has_key = place.has_key })))

  -- a binary search ends at the key, or at the gap for it
  pub searched : (xs : List T) (q : K) → IsAscending R key xs → (r : Result ℕ ℕ) → IsSearchInRange r (length xs) → IsBinarySearchResult (λ x. R (key x) q) xs r → record { found : IfOk r (IsPlace R key xs q); absent : IfErr r (IsGap R key xs q) }
  searched xs q sorted (Ok at) in_range equal = record { found = record { in_range = in_range; has_key = equal }; absent = tt }
  searched xs q sorted (Err at) in_range parted =
      let parts = parted (searchable_from_sorted o key xs q (sorted_from_strict xs sorted)) in
      record {
        found = tt;
        absent = record {
          in_range = in_range;
          before = λ j d lt. parts.0 j d (omega arith) lt;
          after = λ j d le lt. parts.1 j d le lt;
        };
      }

module _ {K T : Type 0} (R : K → K → Ordering) (key : T → K) (test : T → Bool) where
  pub without_absent : (xs : List T) → find test xs ≡ None → without_first test xs ≡ xs
  without_absent [] none = refl
  without_absent (x ∷ xs) none =
      elim (test x) as (λ b. cond b (Some x) (find test xs) ≡ None → cond b xs (x ∷ without_first test xs) ≡ x ∷ xs) [
        | true ↦ λ e. cc
        | false ↦ λ e. ap (λ t. x ∷ t) (without_absent xs e)
      ] none

  all-without_first : (P : K → Type 0) (xs : List T) → AllByRecursion P (map key xs) → AllByRecursion P (map key (without_first test xs))
  all-without_first P [] all = all
  all-without_first P (x ∷ xs) all = elim (test x) as (λ b. AllByRecursion P (map key (cond b xs (x ∷ without_first test xs)))) [ true ↦ all.1 | false ↦ (all.0, all-without_first P xs all.1) ]

  all-filter : (P : K → Type 0) (xs : List T) → AllByRecursion P (map key xs) → AllByRecursion P (map key (filter test xs))
  all-filter P [] all = all
  all-filter P (x ∷ xs) all = elim (test x) as (λ b. AllByRecursion P (map key (cond b (x ∷ filter test xs) (filter test xs)))) [ true ↦ (all.0, all-filter P xs all.1) | false ↦ all-filter P xs all.1 ]

  pub ascending-without_first : (xs : List T) → IsAscending R key xs → IsAscending R key (without_first test xs)
  unfolding IsStrictlySortedBy
  ascending-without_first [] sorted = sorted
  ascending-without_first (x ∷ xs) sorted = elim (test x) as (λ b. IsAscending R key (cond b xs (x ∷ without_first test xs))) [ true ↦ sorted.1 | false ↦ (all-without_first (λ k. R (key x) k ≡ Less) xs sorted.0, ascending-without_first xs sorted.1) ]

  pub ascending-filter : (xs : List T) → IsAscending R key xs → IsAscending R key (filter test xs)
  unfolding IsStrictlySortedBy
  ascending-filter [] sorted = sorted
  ascending-filter (x ∷ xs) sorted = elim (test x) as (λ b. IsAscending R key (cond b (x ∷ filter test xs) (filter test xs))) [ true ↦ (all-filter (λ k. R (key x) k ≡ Less) xs sorted.0, ascending-filter xs sorted.1) | false ↦ ascending-filter xs sorted.1 ]
