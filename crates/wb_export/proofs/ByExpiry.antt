-- Two tests of days: by an order of them, and by what they are.
use Rattle.std.proofs.Common.{◌≡◌, ℤ, Bool, true, false, not, ◌&&◌, List, filter, get_or, ◌+◌, refl, sym, ap, ◌∙◌, arith}
use Rattle.std.specs.Prelude.{int_lt, if◌then◌else◌}
use Rattle.std.specs.Ordering.{int_cmp, int_eq, is_lt}
use Rattle.std.specs.List.Sorted.{IsSortedBy, ties}
use Rattle.std.specs.declared.cmp.Ordering.TheVariants.{Less, Equal, Greater}
use Rattle.wb_model.proofs.Found.{filter_same}
use Rattle.wb_export.specs.Forecasts.{expires_before, expires_on}
use Rattle.wb_export.specs.declared.forecasts.Expiring.{Expiring}

abbrev pub before : Expiring → Expiring → Bool
before x y = is_lt (int_cmp x.expires y.expires)

is_before : (a b : ℤ) → int_lt a b ≡ is_lt (int_cmp a b)
is_before a b = by (int_lt a b) (int_lt b a)
  where
    by : (p q : Bool) → p ≡ is_lt (if p then Less else (if q then Greater else Equal))
    by true q = refl
    by false true = refl
    by false false = refl

neither : (a b : ℤ) → (not (int_lt a b) && not (int_lt b a)) ≡ int_eq b a
neither a b = grind arith

tied : (z x : Expiring) → ties before z x ≡ expires_on z.expires x
tied z x = ap (λ p. not p && not (before x z)) (sym (is_before z.expires x.expires)) ∙ (ap (λ p. not (int_lt z.expires x.expires) && not p) (sym (is_before x.expires z.expires)) ∙ neither z.expires x.expires)

pub of_a_day : (day : ℤ) (xs sorted : List Expiring) → ((z : Expiring) → filter (ties before z) sorted ≡ filter (ties before z) xs) → filter (expires_on day) sorted ≡ filter (expires_on day) xs
of_a_day day xs sorted stable =
    let z : Expiring = record { number = 1; expires = day } in
    sym (filter_same _ _ (tied z) sorted) ∙ (stable z ∙ filter_same _ _ (tied z) xs)

pub by_expiry : (sorted : List Expiring) → IsSortedBy before sorted → IsSortedBy expires_before sorted
by_expiry sorted up k d low high = is_before (get_or sorted (k + 1) d).expires (get_or sorted k d).expires ∙ up k d low high
