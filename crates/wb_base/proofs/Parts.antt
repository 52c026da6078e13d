-- A walk over a list by its places.
use Rattle.std.proofs.Common.{◌≡◌, ℕ, suc, ◌+◌, Bool, true, false, List, ◌∷◌, drop, slice_get, Some, sym, ap, ◌∙◌, ◌||◌, drop-cons, add-one}
use Rattle.std.specs.List.{list_any}
use Rattle.std.proofs.lemmas.Option.{slice_get_within, get_or_from_slice_get}

-- the item at a place, and the rest
pub next : {X : Type 0} (xs : List X) (k : ℕ) (x : X) → slice_get xs k ≡ Some x → drop k xs ≡ x ∷ drop (k + 1) xs
next xs k x here =
    drop-cons xs k x (slice_get_within xs k x here) ∙ ap (λ y. y ∷ drop (suc k) xs) (get_or_from_slice_get xs k x x here) ∙ ap (λ n. x ∷ drop n xs) (sym (add-one k))

-- one that passes the test is found
pub any-found : {X : Type 0} (test : X → Bool) (xs : List X) (k : ℕ) (x : X) → slice_get xs k ≡ Some x → test x ≡ true → list_any test (drop k xs) ≡ true
any-found test xs k x here passes = ap (list_any test) (next xs k x here) ∙ ap (λ b. b || list_any test (drop (k + 1) xs)) passes

-- one that does not is passed over
pub any-passed : {X : Type 0} (test : X → Bool) (xs : List X) (k : ℕ) (x : X) → slice_get xs k ≡ Some x → test x ≡ false → list_any test (drop (k + 1) xs) ≡ list_any test (drop k xs)
any-passed test xs k x here fails = sym (ap (list_any test) (next xs k x here) ∙ ap (λ b. b || list_any test (drop (k + 1) xs)) fails)
