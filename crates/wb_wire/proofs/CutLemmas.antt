-- Bytes cut at the first mark.
use Rattle.std.proofs.Common.{◌≡◌, ◌==◌, ℕ, ◌<◌, ◌≤◌, ◌+◌, List, [], ◌∷◌, take, drop, length, position, Some, None, Bool, inl, inr, arith, subst}
use Rattle.std.specs.Prelude.{nat_lt}
use Rattle.std.specs.List.{position_or_len}
use Rattle.std.proofs.lemmas.Bool.{cases_Bool, ltb-true, ltb-false}
use Rattle.std.proofs.lemmas.List.Sums.{fails_before_first}
use Rattle.std.proofs.lemmas.List.Splits.{slice_split_first, slice_split_none}
use Rattle.wb_wire.specs.Cuts.{cut_at}

abbrev is_mark : ℕ → ℕ → Bool
is_mark mark c = c == mark

first_mark : (mark : ℕ) (xs : List ℕ) (at : ℕ) → position (is_mark mark) xs ≡ Some at → (position_or_len (is_mark mark) xs < length xs) × (position_or_len (is_mark mark) xs ≡ at)
first_mark mark xs at e = elim (cases_Bool (nat_lt (position_or_len (is_mark mark) xs) (length xs))) [
  | inl here ↦ (let is : Some (position_or_len (is_mark mark) xs) ≡ Some at = rw here at e in (ltb-true _ _ here, cc))
  | inr none ↦ (let is : None ≡ Some at = rw none at e in absurd cc)
]

no_mark : (mark : ℕ) (xs : List ℕ) → position (is_mark mark) xs ≡ None → length xs ≤ position_or_len (is_mark mark) xs
no_mark mark xs e = elim (cases_Bool (nat_lt (position_or_len (is_mark mark) xs) (length xs))) [
  | inl here ↦ (let is : Some (position_or_len (is_mark mark) xs) ≡ None = rw here at e in absurd cc)
  | inr none ↦ ltb-false _ _ none
]

pub cut_there : (mark : ℕ) (xs : List ℕ) (at : ℕ) → position (is_mark mark) xs ≡ Some at → cut_at mark xs ≡ take at xs ∷ cut_at mark (drop (at + 1) xs)
cut_there mark xs at e =
    let first = first_mark mark xs at e in
    subst (λ k. cut_at mark xs ≡ take k xs ∷ cut_at mark (drop (k + 1) xs)) first.1 (slice_split_first (is_mark mark) xs 0 first.0)

pub one_part : (mark : ℕ) (xs : List ℕ) → position (is_mark mark) xs ≡ None → cut_at mark xs ≡ xs ∷ []
one_part mark xs e = let most = no_mark mark xs e in slice_split_none (is_mark mark) xs (λ k d less. fails_before_first (is_mark mark) xs k d (omega arith))
