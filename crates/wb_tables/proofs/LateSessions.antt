-- Sessions whose reports are there and whose moments do not fall: which of them last.
use Rattle.std.proofs.Common.{◌≡◌, ℕ, ◌<◌, ◌≤◌, ◌+◌, Bool, true, false, cond, List, [], ◌∷◌, map, filter, Some, refl, sym, ap, ◌∙◌, arith}
use Rattle.std.specs.Prelude.{nat_lt}
use Rattle.std.specs.List.{slice_get}
use Rattle.std.proofs.lemmas.Bool.Decides.{nat_tests}
use Rattle.wb_access.specs.declared.sessions.Session.{Session as KeptSession}
use Rattle.wb_model.specs.Tables.{Case, Session, stays, lasts}
use Rattle.wb_tables.specs.Logins.{AreThere, NeverFall, session_of}

-- where reports are there, time alone ends a session
time_ends : (time : ℕ) (cases : List Case) (s : Session) → stays cases s.who ≡ true → nat_lt time (s.at + 14_400) ≡ lasts time cases s
time_ends time cases s there = grind (arith, there)

pub late_are_ended : (time : ℕ) (cases : List Case) (ss : List KeptSession) → AreThere cases (map session_of ss)
    → map session_of (filter (λ s. nat_lt time (s.at + 14_400)) ss) ≡ filter (lasts time cases) (map session_of ss)
late_are_ended time cases [] there = refl
late_are_ended time cases (s ∷ ss) there = by (nat_lt time (s.at + 14_400)) (lasts time cases (session_of s)) (time_ends time cases (session_of s) there.0) (late_are_ended time cases ss there.1)
  where
    kept : List KeptSession
    kept = filter (λ s. nat_lt time (s.at + 14_400)) ss

    left : List Session
    left = filter (lasts time cases) (map session_of ss)

    by : (a b : Bool) → a ≡ b → map session_of kept ≡ left → map session_of (cond a (s ∷ kept) kept) ≡ cond b (session_of s ∷ left) left
    by true true e ih = ap (λ zs. session_of s ∷ zs) ih
    by false false e ih = ih
    by true false e ih = absurd (grind (arith, e))
    by false true e ih = absurd (grind (arith, e))

-- where the first is not late, none is
pub none_is_late : (time k : ℕ) (cases : List Case) (ss : List Session) → time < k + 14_400 → AreThere cases ss → NeverFall k ss → filter (lasts time cases) ss ≡ ss
none_is_late time k cases [] lt there rise = refl
none_is_late time k cases (s ∷ ss) lt there rise =
    let early : nat_lt time (s.at + 14_400) ≡ true = (let le = rise.0 in grind (arith, nat_tests, lt, le)) in
    let last : lasts time cases s ≡ true = sym (time_ends time cases s there.0) ∙ early in
    ap (λ b. cond b (s ∷ filter (lasts time cases) ss) (filter (lasts time cases) ss)) last
    ∙ ap (λ zs. s ∷ zs) (none_is_late time s.at cases ss (let le = rise.0 in omega (arith, lt, le)) there.1 rise.1)

pub first_is_early : (time : ℕ) (ss : List KeptSession) (first : KeptSession) → slice_get ss 0 ≡ Some first → nat_lt time (first.at + 14_400) ≡ true
    → (cases : List Case) → AreThere cases (map session_of ss) → NeverFall 0 (map session_of ss) → filter (lasts time cases) (map session_of ss) ≡ map session_of ss
first_is_early time [] first is early cases there rise = absurd cc
first_is_early time (s ∷ ss) first is early cases there rise =
    let same : s ≡ first = cc in
    let at : s.at ≡ first.at = ap (λ (z : KeptSession). z.at) same in
    let lt : time < s.at + 14_400 = grind (arith, nat_tests, early, at) in
    none_is_late time s.at cases (map session_of (s ∷ ss)) lt there (omega arith, rise.1)

-- ---- what a purge leaves of them

pub there_filter : (time : ℕ) (cases : List Case) (ss : List Session) → AreThere cases (filter (lasts time cases) ss)
there_filter time cases [] = tt
there_filter time cases (s ∷ ss) = by (there_filter time cases ss) (lasts time cases s) refl
  where
    by : AreThere cases (filter (lasts time cases) ss) → (b : Bool) → lasts time cases s ≡ b → AreThere cases (cond b (s ∷ filter (lasts time cases) ss) (filter (lasts time cases) ss))
    by rest true e = (grind (arith, e), rest)
    by rest false e = rest

pub fall_lower : (j k : ℕ) (ss : List Session) → j ≤ k → NeverFall k ss → NeverFall j ss
fall_lower j k [] le rise = tt
fall_lower j k (s ∷ ss) le rise = (let at = rise.0 in omega (arith, le, at), rise.1)

pub fall_filter : (k : ℕ) (p : Session → Bool) (ss : List Session) → NeverFall k ss → NeverFall k (filter p ss)
fall_filter k p [] rise = tt
fall_filter k p (s ∷ ss) rise = by (p s) (fall_filter s.at p ss rise.1)
  where
    by : (b : Bool) → NeverFall s.at (filter p ss) → NeverFall k (cond b (s ∷ filter p ss) (filter p ss))
    by true rest = (rise.0, rest)
    by false rest = fall_lower k s.at (filter p ss) rise.0 rest
