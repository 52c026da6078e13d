-- How many sessions stand after a purge, and after a change.
use Rattle.std.proofs.Common.{ℕ, ◌≤◌, ◌+◌, suc, Bool, true, false, cond, not, List, [], ◌∷◌, length, length-append, map, arith}
use Rattle.std.specs.Prelude.{filter}
use Rattle.std.proofs.lemmas.List.Sums.{sum_by-cons}
use Rattle.wb_model.specs.Tables.{Session, lasts}
use Rattle.wb_model.specs.Changes.{Change, Deletes, LogsIn, LogsOut, Configures}
use Rattle.wb_model.specs.Host.{live_cases, ends, sessions_after}
use Rattle.wb_tables.specs.Kept.{PlainTenancy, live_place, sessions_at}

fewer : {X : Type 0} (p : X → Bool) (xs : List X) → length (filter p xs) ≤ length xs
fewer p [] = omega arith
fewer {X} p (x ∷ xs) = by (fewer p xs) (p x)
  where
    by : length (filter p xs) ≤ length xs → (b : Bool) → length (cond b (x ∷ filter p xs) (filter p xs)) ≤ suc (length xs)
    by h true = omega (arith, h)
    by h false = omega (arith, h)

abbrev standing_at : PlainTenancy → ℕ
standing_at x = length x.plain.sessions

pub fewer_sessions : (time : ℕ) (xs : List PlainTenancy) → sessions_at (map (live_place time) xs) ≤ sessions_at xs
fewer_sessions time [] = omega arith
fewer_sessions time (x ∷ xs) =
    let here : standing_at (live_place time x) ≤ standing_at x = fewer (lasts time (live_cases x.plain time)) x.plain.sessions in
    omega (arith, here, fewer_sessions time xs, sum_by-cons standing_at (live_place time x) (map (live_place time) xs), sum_by-cons standing_at x xs)

-- a change makes one session at most
left_more : (ch : Change) (ss : List Session) → length (filter (λ s. not (ends ch ss s)) ss) ≤ length ss + 1
left_more ch ss = let left = fewer (λ s. not (ends ch ss s)) ss in omega (arith, left)

pub one_more : (ch : Change) (ss : List Session) → length (sessions_after ch ss) ≤ length ss + 1
one_more (LogsIn new) ss =
    let left = fewer (λ s. not (ends (LogsIn new) ss s)) ss in
    let all = length-append (filter (λ s. not (ends (LogsIn new) ss s)) ss) (new ∷ []) in
    omega (arith, left, all)
one_more (LogsOut turn who) ss = left_more (LogsOut turn who) ss
one_more (Configures setting) ss = left_more (Configures setting) ss
one_more (Deletes n) ss = left_more (Deletes n) ss
one_more _ ss = omega arith
