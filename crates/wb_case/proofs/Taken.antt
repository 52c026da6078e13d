-- The last entry of a trail, and the room that is left after it.
use Rattle.std.proofs.Common.{◌≡◌, ℕ, suc, ◌+◌, ◌-◌, ◌/◌, ◌<◌, ◌≤◌, min, List, [], ◌∷◌, ◌++◌, length, Some, refl, sym, ap, ◌∙◌, arith}
use Rattle.std.specs.Prelude.{slice_get, unwrap_or}
use Rattle.wb_model.specs.declared.entry.Entry.{Entry}

got : (trail : List Entry) (e : Entry) → slice_get (trail ++ e ∷ []) (length trail) ≡ Some e
got [] e = refl
got (x ∷ trail) e = got trail e

one-more : (trail : List Entry) (e : Entry) → length (trail ++ e ∷ []) ≡ suc (length trail)
one-more [] e = refl
one-more (x ∷ trail) e = ap suc (one-more trail e)

less : (n : ℕ) → suc n - 1 ≡ n
less n = omega arith

pub got-last : (trail items : List Entry) (e x : Entry) (n : ℕ) → items ≡ trail ++ e ∷ [] → n ≡ length items → slice_get items (n - 1) ≡ Some x → (x ≡ e) × (n - 1 ≡ length trail)
got-last trail items e x n is count found =
    let place : n - 1 ≡ length trail = ap (λ k. k - 1) (count ∙ ap length is ∙ one-more trail e) ∙ less (length trail) in
    (ap (λ o. unwrap_or o e) (sym found ∙ ap (λ k. slice_get items k) place ∙ ap (λ es. slice_get es (length trail)) is ∙ got trail e), place)

thirty-two : (r : ℕ) → 0 < r / 32 → 32 ≤ r
thirty-two r some = omega (arith, some)

pub few-fit : (n t d r : ℕ) → n ≤ 32 → 0 < min t (min d (r / 32)) → n ≤ r
few-fit n t d r few some = let enough = thirty-two r (omega (arith, some)) in omega (arith, few, enough)

quotient : (r s n : ℕ) → r ≤ s + n → n ≤ 32 → r / 32 ≤ s / 32 + 1
quotient r s n less few = omega (arith, less, few)

pub room-after : (t d r t' d' r' n : ℕ) → t ≤ t' + 1 → d ≤ d' + 1 → r ≤ r' + n → n ≤ 32 → min t (min d (r / 32)) ≤ min t' (min d' (r' / 32)) + 1
room-after t d r t' d' r' n entries places readers few = let parts = quotient r r' n readers few in omega (arith, entries, places, parts)
