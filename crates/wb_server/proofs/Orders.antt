-- Workers that are taken from the end, and whose stations stand in the order in which they came.
use Rattle.std.proofs.Common.{◌≡◌, ◌<◌, ◌+◌, ◌-◌, ℕ, List, [], ◌∷◌, ◌++◌, All, length, take, slice_index_or, sym, ap, ◌∙◌, subst, arith}
use Rattle.std.proofs.lemmas.List.Elements.{All-from_get_or, All-get_or, All-nil}
use Rattle.std.proofs.Math.ListN.{get_or-append, length-append}
use Rattle.std.proofs.Math.Seq.{get_or-append_seam}
use Rattle.std.proofs.lemmas.List.{get_or-take}

-- what is taken from the end of a front part stands at its last place
pub last_at : {W : Type 0} (ws old new : List W) (x : W) (m : ℕ) → length old ≡ m → old ≡ take m ws → old ≡ new ++ x ∷ [] → (d : W) → slice_index_or ws (m - 1) d ≡ x
last_at ws old new x m len front parts d =
    let size : length old ≡ length new + 1 = ap length parts ∙ length-append new (x ∷ []) in
    let place : m - 1 ≡ length new = omega (arith, size, len) in
    let taken : slice_index_or (take m ws) (m - 1) d ≡ slice_index_or ws (m - 1) d = get_or-take m ws (m - 1) d (omega (arith, size, len)) in
    let seam : slice_index_or (new ++ x ∷ []) (length new) d ≡ x = get_or-append_seam new x [] d in
    sym taken ∙ ap (λ xs. slice_index_or xs (m - 1) d) (sym front ∙ parts) ∙ ap (λ k. slice_index_or (new ++ x ∷ []) k d) place ∙ seam

-- as many stations stand in the opposite order of their workers, of which there are n, and so do these and the one of the worker before
pub turned_more : {W S : Type 0} (f : W → S) (ws : List W) (n : ℕ) (ss : List S) (j : ℕ) (x : W) (m : ℕ)
    → length ss ≡ j → j + m ≡ n → 0 < m
    → ((k : ℕ) (d : W) (e : S) → k < j → slice_index_or ss k e ≡ f (slice_index_or ws (n - 1 - k) d))
    → ((d : W) → slice_index_or ws (m - 1) d ≡ x)
    → (k : ℕ) (d : W) (e : S) → k < j + 1 → slice_index_or (ss ++ f x ∷ []) k e ≡ f (slice_index_or ws (n - 1 - k) d)
turned_more f ws n ss j x m is_j sum some turned last k d e within =
    let seam : slice_index_or (ss ++ f x ∷ []) (length ss) e ≡ f x = get_or-append_seam ss (f x) [] e in
    let place : n - 1 - j ≡ m - 1 = omega (arith, sum, some) in
    let before = get_or-append ss (f x ∷ []) e k in
    let was = turned k d e in
    let it = last d in
    grind (arith, within, is_j, seam, place, before, was, it)

-- what came back of m workers in the opposite order of theirs stands at the place of its own
pub back_in_place : {W S : Type 0} (f : W → S) (n m i : ℕ) (e : S) (w : W) (new : List S) (written after : List W)
    → m ≡ n → i < n
    → ((k : ℕ) (d : W) (e : S) → k < m → slice_index_or new k e ≡ f (slice_index_or written (m - 1 - k) d))
    → written ≡ after
    → slice_index_or new i e ≡ f (slice_index_or after (n - 1 - i) w)
back_in_place f n m i e w new written after all within back same =
    let here : m - 1 - i ≡ n - 1 - i = omega (arith, all) in
    back i w e (omega (arith, all, within)) ∙ ap (λ k. f (slice_index_or written k w)) here ∙ ap (λ xs. f (slice_index_or xs (n - 1 - i) w)) same

-- stations that were given to n workers in the opposite order, and came back so of m, each stand at their own place
pub in_place : {W S : Type 0} (station : W → S) (n m i : ℕ) (d e : S) (w : W) (old new : List S) (before written after : List W)
    → m ≡ n → i < n
    → ((k : ℕ) (d : W) (e : S) → k < n → station (slice_index_or before k d) ≡ slice_index_or old (n - 1 - k) e)
    → ((k : ℕ) (d : W) (e : S) → k < m → slice_index_or new k e ≡ station (slice_index_or written (m - 1 - k) d))
    → written ≡ after
    → (station (slice_index_or before (n - 1 - i) w) ≡ slice_index_or old i d) × (slice_index_or new i e ≡ station (slice_index_or after (n - 1 - i) w))
in_place station n m i d e w old new before written after all within placed back same =
    let there : n - 1 - (n - 1 - i) ≡ i = omega (arith, within) in (
      placed (n - 1 - i) w d (omega (arith, within)) ∙ ap (λ k. slice_index_or old k d) there,
      back_in_place station n m i e w new written after all within back same,
    )

-- what holds at a place of the written list holds at that place of the list that it was written from
pub same_place : {W X : Type 0} (f : W → X) (written after : List W) (j k : ℕ) (w : W) (x : X) → j ≡ k → written ≡ after → f (slice_index_or written k w) ≡ x → f (slice_index_or after j w) ≡ x
same_place f written after j k w x there same e = ap (λ i. f (slice_index_or after i w)) there ∙ ap (λ xs. f (slice_index_or xs k w)) (sym same) ∙ e

-- what holds of each of a list holds of what each of as many has, where these have them in the opposite order
pub all_given : {W O : Type 0} (own : W → O) (P : O → Type 0) (n : ℕ) (ws : List W) (os : List O) → length ws ≡ n → length os ≡ n
    → ((k : ℕ) (d : W) (e : O) → k < n → own (slice_index_or ws k d) ≡ slice_index_or os (n - 1 - k) e) → All P os → All (λ w. P (own w)) ws
all_given own P n [] os many same order all = All-nil (λ w. P (own w))
all_given own P n (w ∷ ws) os many same order all =
    All-from_get_or (λ v. P (own v)) (w ∷ ws) w
    (λ k within. subst P (sym (order k w (own w) (omega (arith, within, many)))) (All-get_or P os (n - 1 - k) (own w) (omega (arith, within, many, same)) all))

-- and the other way round, where these came back of m workers
pub all_back : {W O : Type 0} (own : W → O) (P : O → Type 0) (n m : ℕ) (written ws : List W) (os : List O) → length ws ≡ n → length os ≡ n → m ≡ n
    → ((k : ℕ) (d : W) (e : O) → k < m → slice_index_or os k e ≡ own (slice_index_or written (m - 1 - k) d)) → written ≡ ws → All (λ w. P (own w)) ws → All P os
all_back own P n m written ws [] many same full back is all = All-nil P
all_back own P n m written [] (o ∷ os) many same full back is all = absurd (omega (arith, many, same))
all_back own P n m written (w ∷ ws) (o ∷ os) many same full back is all =
    All-from_get_or P (o ∷ os) o
    (λ k within.
    let inside : k < n = omega (arith, within, same) in
    subst P (sym (back_in_place own n m k o w (o ∷ os) written (w ∷ ws) full inside back is)) (All-get_or (λ v. P (own v)) (w ∷ ws) (n - 1 - k) w (omega (arith, inside, many)) all))

-- what follows from any one of a list holds where it has one
pub by_any : {X : Type 0} (P : Type 0) (xs : List X) → 0 < length xs → (X → P) → P
by_any P [] some each = absurd (omega (arith, some))
by_any P (x ∷ xs) some each = each x
