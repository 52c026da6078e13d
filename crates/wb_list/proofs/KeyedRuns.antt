-- The items of a run lie side by side, between two places that a binary search finds.
use Rattle.std.proofs.Common.{◌≡◌, ℕ, zero, suc, ◌+◌, ◌<◌, ◌≤◌, List, [], ◌∷◌, length, get_or, take, drop, map, true, false, refl, sym, ap, ◌∙◌, arith}
use Rattle.std.specs.declared.cmp.Ordering.{Ordering}
use Rattle.std.specs.declared.cmp.Ordering.TheVariants.{Less, Equal, Greater}
use Rattle.std.specs.Ordering.{is_eq, is_lt, is_le}
use Rattle.std.specs.List.{filter}
use Rattle.std.specs.List.Sorted.{IsPartitionedBy, IsPartitionPoint}
use Rattle.std.proofs.lemmas.List.{get_or-map, length-map}
use Rattle.std.proofs.lemmas.Map.Keys.{sorted_head, sorted_tail}
use Rattle.std.proofs.lemmas.List.Elements.{All-from_recursion}
use Rattle.wb_list.specs.Keyed.{IsAscending, IsRun}
use Rattle.wb_list.proofs.Sides.{is_less, not_both}

module _ {K T : Type 0} (R : K → K → Ordering) (key : T → K) where
  -- the first key is below that of a later place
  above_first : (x : T) (xs : List T) (j : ℕ) (d : T) → IsAscending R key (x ∷ xs) → j < length xs → R (key x) (key (get_or xs j d)) ≡ Less
  above_first x xs j d sorted within =
      let below = (All-from_recursion (λ k. R (key x) k ≡ Less) (map key xs) (sorted_head R (key x) (map key xs) sorted)) j (key d) (omega (arith, length-map xs key)) in
      rw (← get_or-map key xs j d (key d) within) below

  module _ (side : T → Ordering) (run : IsRun R key side) where
    pub before_parted : (xs : List T) → IsAscending R key xs → IsPartitionedBy (λ x. is_lt (side x)) xs
    before_parted [] sorted i j d le lt passes = absurd (omega arith)
    before_parted (x ∷ xs) sorted zero zero d le lt passes = passes
    before_parted (x ∷ xs) sorted zero (suc j) d le lt passes =
        rw (run.before x (get_or xs j d) (above_first x xs j d sorted (omega arith)) (is_less _ passes)) refl
    before_parted (x ∷ xs) sorted (suc i) zero d le lt passes = absurd (omega arith)
    before_parted (x ∷ xs) sorted (suc i) (suc j) d le lt passes = before_parted xs (sorted_tail R (key x) (map key xs) sorted) i j d (omega arith) (omega arith) passes

    pub within_parted : (xs : List T) → IsAscending R key xs → IsPartitionedBy (λ x. is_le (side x)) xs
    within_parted [] sorted i j d le lt passes = absurd (omega arith)
    within_parted (x ∷ xs) sorted zero zero d le lt passes = passes
    within_parted (x ∷ xs) sorted zero (suc j) d le lt passes =
        elim (side x) as (λ r. side x ≡ r → is_le r ≡ true) [
          | Less ↦ λ _. refl
          | Equal ↦ λ _. refl
          | Greater ↦ λ above. ap is_le (sym (run.after x (get_or xs j d) (above_first x xs j d sorted (omega arith)) above)) ∙ passes
        ] refl
    within_parted (x ∷ xs) sorted (suc i) zero d le lt passes = absurd (omega arith)
    within_parted (x ∷ xs) sorted (suc i) (suc j) d le lt passes = within_parted xs (sorted_tail R (key x) (map key xs) sorted) i j d (omega arith) (omega arith) passes

-- a parting of a list parts its tail
later_tail : {T : Type 0} (P Q : T → Type 0) (x : T) (xs : List T) (i : ℕ) → IsPartitionPoint P Q (x ∷ xs) (suc i) → IsPartitionPoint P Q xs i
later_tail P Q x xs i parted = (λ k d low high. parted.0 (suc k) d (omega arith) (omega arith), λ k d low high. parted.1 (suc k) d (omega arith) (omega arith))

front_tail : {T : Type 0} (P Q : T → Type 0) (x : T) (xs : List T) → IsPartitionPoint P Q (x ∷ xs) zero → IsPartitionPoint P Q xs zero
front_tail P Q x xs parted = (λ k d low high. absurd (omega arith), λ k d low high. parted.1 (suc k) d (omega arith) (omega arith))

module _ {T : Type 0} (side : T → Ordering) where
  abbrev Starts : List T → ℕ → Type 0
  Starts xs i = IsPartitionPoint (λ x. is_lt (side x) ≡ true) (λ x. is_lt (side x) ≡ false) xs i

  abbrev Ends : List T → ℕ → Type 0
  Ends xs j = IsPartitionPoint (λ x. is_le (side x) ≡ true) (λ x. is_le (side x) ≡ false) xs j

  in_run : (r : Ordering) → is_lt r ≡ false → is_le r ≡ true → is_eq r ≡ true
  in_run Less e f = cc
  in_run Equal e f = refl
  in_run Greater e f = cc

  before_run : (r : Ordering) → is_lt r ≡ true → is_eq r ≡ false
  before_run Less e = refl
  before_run Equal e = cc
  before_run Greater e = refl

  after_run : (r : Ordering) → is_le r ≡ false → is_eq r ≡ false
  after_run Less e = refl
  after_run Equal e = cc
  after_run Greater e = refl

  starts_later : (x : T) (xs : List T) (i : ℕ) → Starts (x ∷ xs) (suc i) → Starts xs i
  starts_later x xs i starts = later_tail (λ y. is_lt (side y) ≡ true) (λ y. is_lt (side y) ≡ false) x xs i starts

  ends_later : (x : T) (xs : List T) (j : ℕ) → Ends (x ∷ xs) (suc j) → Ends xs j
  ends_later x xs j ends = later_tail (λ y. is_le (side y) ≡ true) (λ y. is_le (side y) ≡ false) x xs j ends

  starts_first : (x : T) (xs : List T) → Starts (x ∷ xs) zero → Starts xs zero
  starts_first x xs starts = front_tail (λ y. is_lt (side y) ≡ true) (λ y. is_lt (side y) ≡ false) x xs starts

  ends_first : (x : T) (xs : List T) → Ends (x ∷ xs) zero → Ends xs zero
  ends_first x xs ends = front_tail (λ y. is_le (side y) ≡ true) (λ y. is_le (side y) ≡ false) x xs ends

  pub run_ordered : (xs : List T) (i j : ℕ) → Starts xs i → Ends xs j → i ≤ length xs → i ≤ j
  run_ordered [] i j starts ends bound = omega (arith, bound)
  run_ordered (x ∷ xs) zero j starts ends bound = omega arith
  run_ordered (x ∷ xs) (suc i) zero starts ends bound = absurd (not_both (side x) (starts.0 0 x (omega arith) (omega arith)) (ends.1 0 x (omega arith) (omega arith)))
  run_ordered (x ∷ xs) (suc i) (suc j) starts ends bound = omega (arith, run_ordered xs i j (starts_later x xs i starts) (ends_later x xs j ends) (omega arith))

  pub run_between : (xs : List T) (i j n : ℕ) → i + n ≡ j → Starts xs i → Ends xs j → i ≤ length xs → j ≤ length xs → take n (drop i xs) ≡ filter (λ x. is_eq (side x)) xs
  run_between [] zero j zero e starts ends low high = refl
  run_between [] zero j (suc n) e starts ends low high = absurd (omega (arith, e))
  run_between [] (suc i) j n e starts ends low high = absurd (omega arith)
  run_between (x ∷ xs) zero zero zero e starts ends low high =
      rw (after_run (side x) (ends.1 0 x (omega arith) (omega arith))) (run_between xs zero zero zero refl (starts_first x xs starts) (ends_first x xs ends) (omega arith) (omega arith))
  run_between (x ∷ xs) zero zero (suc n) e starts ends low high = absurd (omega (arith, e))
  run_between (x ∷ xs) zero (suc j) zero e starts ends low high = absurd (omega (arith, e))
  run_between (x ∷ xs) zero (suc j) (suc n) e starts ends low high =
      rw (in_run (side x) (starts.1 0 x (omega arith) (omega arith)) (ends.0 0 x (omega arith) (omega arith))) (ap (λ t. x ∷ t) (run_between xs zero j n (omega (arith, e)) (starts_first x xs starts) (ends_later x xs j ends) (omega arith) (omega arith)))
  run_between (x ∷ xs) (suc i) zero n e starts ends low high = absurd (not_both (side x) (starts.0 0 x (omega arith) (omega arith)) (ends.1 0 x (omega arith) (omega arith)))
  run_between (x ∷ xs) (suc i) (suc j) n e starts ends low high =
      rw (before_run (side x) (starts.0 0 x (omega arith) (omega arith))) (run_between xs i j n (omega (arith, e)) (starts_later x xs i starts) (ends_later x xs j ends) (omega arith) (omega arith))
