-- The items of a tenant lie side by side, in a list that is in the order of tenants.
use Rattle.std.proofs.Common.{◌≡◌, ℕ, ◌+◌, ◌<◌, ◌≤◌, ◌==◌, Bool, true, false, List, [], ◌∷◌, cond, filter, take, drop, length, refl, sym, ap, ◌∙◌, arith}
use Rattle.std.specs.Cmp.{ranks, nat_cmp_is, unsigned_ties}
use Rattle.std.specs.List.Sorted.{IsPartitionPoint, IsPartitionedBy}
use Rattle.std.specs.Ordering.{nat_cmp, ordering_then, is_lt, is_le, is_eq, MatchOrdering}
use Rattle.std.specs.declared.cmp.Ordering.{Ordering}
use Rattle.std.specs.declared.cmp.Ordering.TheVariants.{Less, Equal, Greater}
use Rattle.wb_list.specs.Keyed.{IsAscending, IsRun}
use Rattle.wb_list.proofs.KeyedRuns.{before_parted, within_parted, run_between}
use Rattle.wb_setup.specs.Keys.{Key, key_cmp}

not_less : Greater ≡ Less → ⊥
not_less e = absurd cc

-- a key that is below another is of a tenant that is not above the other's
pub not_above : (a b : ℕ) (o : Ordering) → ordering_then (nat_cmp a b) o ≡ Less → a ≤ b
not_above a b o less = elim (nat_cmp a b) as (λ r. MatchOrdering r (a < b) (a ≡ b) (b < a) → ordering_then r o ≡ Less → a ≤ b) [
  | Less ↦ λ h e. omega (arith, h)
  | Equal ↦ λ h e. omega (arith, h)
  | Greater ↦ λ h e. absurd (not_less e)
] (ranks a b) less

below : (a b : ℕ) → nat_cmp a b ≡ Less → a < b
below a b less = elim (nat_cmp a b) as (λ r. MatchOrdering r (a < b) (a ≡ b) (b < a) → r ≡ Less → a < b) [
  | Less ↦ λ h e. h
  | Equal ↦ λ h e. absurd cc
  | Greater ↦ λ h e. absurd cc
] (ranks a b) less

above : (a b : ℕ) → nat_cmp a b ≡ Greater → b < a
above a b greater = elim (nat_cmp a b) as (λ r. MatchOrdering r (a < b) (a ≡ b) (b < a) → r ≡ Greater → b < a) [
  | Less ↦ λ h e. absurd cc
  | Equal ↦ λ h e. absurd cc
  | Greater ↦ λ h e. h
] (ranks a b) greater

same_filter : {T : Type 0} (p q : T → Bool) → ((x : T) → p x ≡ q x) → (xs : List T) → filter p xs ≡ filter q xs
same_filter p q same [] = refl
same_filter p q same (x ∷ xs) = rw (same x) (ap (λ l. cond (q x) (x ∷ l) l) (same_filter p q same xs))

module _ {T : Type 0} (tenant place : T → ℕ) (t : ℕ) where
  abbrev pub key : T → Key
  key x = (tenant x, place x)

  abbrev pub side : T → Ordering
  side x = nat_cmp (tenant x) t

  is_run : IsRun key_cmp key side
  is_run = record {
    before = λ x y less under.
        let up = not_above (tenant x) (tenant y) (nat_cmp (place x) (place y)) less in
        let low = below (tenant y) t under in
        sym (nat_cmp_is (tenant x) t Less (omega (arith, up, low)));
    after = λ x y less over.
        let up = not_above (tenant x) (tenant y) (nat_cmp (place x) (place y)) less in
        let high = above (tenant x) t over in
        sym (nat_cmp_is (tenant y) t Greater (omega (arith, up, high)));
  }

  pub starts : (xs : List T) → IsAscending key_cmp key xs → IsPartitionedBy (λ x. is_lt (side x)) xs
  starts xs order = before_parted key_cmp key side is_run xs order

  pub ends : (xs : List T) → IsAscending key_cmp key xs → IsPartitionedBy (λ x. is_le (side x)) xs
  ends xs order = within_parted key_cmp key side is_run xs order

  pub part_between : (xs : List T) (i j n : ℕ) → i + n ≡ j
      → IsPartitionPoint (λ x. is_lt (side x) ≡ true) (λ x. is_lt (side x) ≡ false) xs i → IsPartitionPoint (λ x. is_le (side x) ≡ true) (λ x. is_le (side x) ≡ false) xs j
      → i ≤ length xs → j ≤ length xs → take n (drop i xs) ≡ filter (λ x. tenant x == t) xs
  part_between xs i j n is starts ends low high =
      run_between side xs i j n is starts ends low high ∙ same_filter (λ x. is_eq (side x)) (λ x. tenant x == t) (λ x. sym (unsigned_ties (tenant x) t)) xs
