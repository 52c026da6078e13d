-- Sessions that go are counted no more.
use Rattle.std.proofs.Common.{◌≡◌, ℕ, ◌+◌, ◌<◌, ◌≤◌, Bool, true, false, not, List, [], ◌∷◌, cond, Some, None, find, filter, count_by, length, refl, ap, arith}
use Rattle.std.proofs.lemmas.Bool.Decides.{nat_tests}
use Rattle.std.proofs.lemmas.List.Sums.{sum_by-cons}
use Rattle.wb_list.specs.Keyed.{without_first}
use Rattle.wb_base.specs.declared.callers.Principal.{Principal}
use Rattle.wb_base.specs.declared.callers.Principal.TheVariants.{User, Report}
use Rattle.wb_access.specs.SessionCounts.{Counted, AreCounted, count_in}
use Rattle.wb_access.specs.Sessions.{same_principal, is_of}
use Rattle.wb_access.specs.declared.sessions.Session.{Session}

pub same_self : (p : Principal) → same_principal p p ≡ true
same_self (User t u) = grind (arith, nat_tests)
same_self (Report t n) = grind (arith, nat_tests)

pub counted : (q : Principal) (s : Session) (ss : List Session) → count_by (is_of q) (s ∷ ss) ≡ cond (is_of q s) 1 0 + count_by (is_of q) ss
counted q s ss = sum_by-cons (λ x. cond (is_of q x) 1 0) s ss

-- ---- one that goes

module _ (test : Session → Bool) (gone : Session) where
  pub counted_gone : (q : Principal) (ss : List Session) → Some gone ≡ find test ss → count_by (is_of q) ss ≡ cond (is_of q gone) 1 0 + count_by (is_of q) (without_first test ss)
  counted_gone q [] found = absurd (cc found)
  counted_gone q (s ∷ ss) found = by (test s) refl (counted_gone q ss)
    where
      by : (b : Bool) → test s ≡ b → (Some gone ≡ find test ss → count_by (is_of q) ss ≡ cond (is_of q gone) 1 0 + count_by (is_of q) (without_first test ss))
          → count_by (is_of q) (s ∷ ss) ≡ cond (is_of q gone) 1 0 + count_by (is_of q) (cond b ss (s ∷ without_first test ss))
      by true e ih = let same : gone ≡ s = cc (rw e at found) in rw same (counted q s ss)
      by false e ih =
          let rest = ih (rw e at found) in
          let first = counted q s ss in
          let later = counted q s (without_first test ss) in
          omega (arith, rest, first, later)

  module _ (ss : List Session) (found : Some gone ≡ find test ss) (entries : List Counted) (are : AreCounted ss entries) where
    -- its principal has one
    pub has_one : 0 < count_in gone.principal entries
    has_one =
        let e = are gone.principal in
        let f = counted_gone gone.principal ss found in
        let own = same_self gone.principal in
        omega (arith, e, rw own at f)

    -- the others are counted
    pub one_gone : (new : List Counted) → ((q : Principal) → cond (same_principal gone.principal q) 1 0 + count_in q new ≡ count_in q entries) → AreCounted (without_first test ss) new
    one_gone new takes q =
        let e = takes q in
        let f = are q in
        let g = counted_gone q ss found in
        omega (arith, e, f, g)

-- ---- none that goes

pub none_gone : (test : Session → Bool) (ss : List Session) → None ≡ find test ss → without_first test ss ≡ ss
none_gone test [] none = refl
none_gone test (s ∷ ss) none = by (test s) refl (none_gone test ss)
  where
    by : (b : Bool) → test s ≡ b → (None ≡ find test ss → without_first test ss ≡ ss) → cond b ss (s ∷ without_first test ss) ≡ s ∷ ss
    by true e rest = absurd (cc (rw e at none))
    by false e rest = ap (λ l. s ∷ l) (rest (rw e at none))

-- ---- those that pass a test

-- no more are left than there were
pub fewer : (q : Principal) (test : Session → Bool) (ss : List Session) → count_by (is_of q) (filter test ss) ≤ count_by (is_of q) ss
fewer q test [] = omega (arith)
fewer q test (s ∷ ss) = by (test s) (fewer q test ss)
  where
    by : (b : Bool) → count_by (is_of q) (filter test ss) ≤ count_by (is_of q) ss → count_by (is_of q) (cond b (s ∷ filter test ss) (filter test ss)) ≤ count_by (is_of q) (s ∷ ss)
    by true le = let e = counted q s (filter test ss) in let f = counted q s ss in omega (arith, e, f, le)
    by false le = let f = counted q s ss in omega (arith, f, le)

-- a principal has no more sessions than there are
pub few : (q : Principal) (ss : List Session) → count_by (is_of q) ss ≤ length ss
few q [] = omega (arith)
few q (s ∷ ss) = by (is_of q s) (counted q s ss) (few q ss)
  where
    by : (b : Bool) → count_by (is_of q) (s ∷ ss) ≡ cond b 1 0 + count_by (is_of q) ss → count_by (is_of q) ss ≤ length ss → count_by (is_of q) (s ∷ ss) ≤ length (s ∷ ss)
    by true f le = omega (arith, f, le)
    by false f le = omega (arith, f, le)

-- the first of what is left passes, so its principal is counted
pub has_passing : (test : Session → Bool) (s : Session) (rest all : List Session) (entries : List Counted) → test s ≡ true
    → ((q : Principal) → count_in q entries + count_by (is_of q) (filter (λ x. not (test x)) (s ∷ rest)) ≡ count_by (is_of q) all + count_by (is_of q) (s ∷ rest)) → 0 < count_in s.principal entries
has_passing test s rest all entries passes are =
    let p = s.principal in
    let left = filter (λ x. not (test x)) rest in
    let e = are p in
    let skipped : count_by (is_of p) (filter (λ x. not (test x)) (s ∷ rest)) ≡ count_by (is_of p) left = ap (λ b. count_by (is_of p) (cond (not b) (s ∷ left) left)) passes in
    let own : ◌≡◌ {A = ℕ} (cond (is_of p s) 1 0) 1 = ap (λ b. cond b 1 0) (same_self p) in
    let first = counted p s rest in
    let le = fewer p (λ x. not (test x)) rest in
    omega (arith, e, skipped, own, first, le)
