-- The first item that passes a test, found by its place.
use Rattle.std.proofs.Common.{◌≡◌, ℕ, zero, suc, ◌<◌, ◌+◌, Bool, true, false, List, [], ◌∷◌, length, get_or, refl, ap, sym, ◌∙◌, cond, arith, Some, None, find}
use Rattle.std.specs.List.{remove, position, position_from}
use Rattle.std.proofs.lemmas.List.Quantifiers.{position-Some}
use Rattle.std.proofs.lemmas.Iterator.Adapters.{position_from-zero}
use Rattle.wb_list.specs.Keyed.{without_first}

module _ {X : Type 0} (p : X → Bool) where
  -- what is taken out at the first place that passes is the first item that passes
  remove_at : (xs : List X) (i : ℕ) → i < length xs → ((d : X) → p (get_or xs i d) ≡ true) → ((k : ℕ) (d : X) → k < i → p (get_or xs k d) ≡ false) → remove xs i ≡ without_first p xs
  remove_at [] i within passes before = absurd (omega arith)
  remove_at (x ∷ xs) zero within passes before = rw (passes x)
  remove_at (x ∷ xs) (suc i) within passes before = rw (before 0 x (omega arith)) (ap (λ t. x ∷ t) (remove_at xs i (omega arith) passes (λ k d lt. before (suc k) d (omega arith))))

  first_within : (xs : List X) (i : ℕ) → position p xs ≡ Some i → i < length xs
  first_within xs i found = elim xs as (λ ys. position p ys ≡ Some i → i < length ys) [ [] ↦ λ e. absurd (cc) | (x ∷ ys) ↦ λ e. (position-Some p (x ∷ ys) i x e).0 ] found

  pub remove_first : (xs : List X) (i : ℕ) → position p xs ≡ Some i → remove xs i ≡ without_first p xs
  remove_first xs i found = remove_at xs i (first_within xs i found) (λ d. (position-Some p xs i d found).1) (λ k d lt. (position-Some p xs i d found).2 k lt)

  find_at : (xs : List X) (i : ℕ) (d : X) → i < length xs → ((d : X) → p (get_or xs i d) ≡ true) → ((k : ℕ) (d : X) → k < i → p (get_or xs k d) ≡ false) → find p xs ≡ Some (get_or xs i d)
  find_at [] i d within passes before = absurd (omega arith)
  find_at (x ∷ xs) zero d within passes before = rw (passes x)
  find_at (x ∷ xs) (suc i) d within passes before = rw (before 0 x (omega arith)) (find_at xs i d (omega arith) passes (λ k e lt. before (suc k) e (omega arith)))

  pub find_first : (xs : List X) (i : ℕ) (d : X) → position p xs ≡ Some i → find p xs ≡ Some (get_or xs i d)
  find_first xs i d found = find_at xs i d (first_within xs i found) (λ e. (position-Some p xs i e found).1) (λ k e lt. (position-Some p xs i e found).2 k lt)

  -- where none passes, nothing is found and nothing goes
  none_from : (xs : List X) (n : ℕ) → position_from p n xs ≡ None → without_first p xs ≡ xs
  none_from [] n none = refl
  none_from (x ∷ xs) n none =
      elim (p x) as (λ b. cond b (Some n) (position_from p (n + 1) xs) ≡ None → cond b xs (x ∷ without_first p xs) ≡ x ∷ xs) [
        | true ↦ λ e. cc
        | false ↦ λ e. ap (λ t. x ∷ t) (none_from xs (n + 1) e)
      ] none

  pub without_none : (xs : List X) → position p xs ≡ None → without_first p xs ≡ xs
  without_none xs none = none_from xs 0 (sym (position_from-zero p xs) ∙ none)

  found_from : (xs : List X) (n : ℕ) → position_from p n xs ≡ None → find p xs ≡ None
  found_from [] n none = refl
  found_from (x ∷ xs) n none =
      elim (p x) as (λ b. cond b (Some n) (position_from p (n + 1) xs) ≡ None → cond b (Some x) (find p xs) ≡ None) [
        | true ↦ λ e. cc
        | false ↦ λ e. found_from xs (n + 1) e
      ] none

  pub find_none : (xs : List X) → position p xs ≡ None → find p xs ≡ None
  find_none xs none = found_from xs 0 (sym (position_from-zero p xs) ∙ none)
