-- The sessions without those of one report's reporter: what a change does to the others does not hang on them.
use Rattle.std.proofs.Common.{◌≡◌, ℕ, Bool, true, false, cond, List, [], ◌∷◌, ◌++◌, refl, sym, ap, ◌∙◌, arith}
use Rattle.std.specs.Prelude.{◌&&◌, nat_le, not, filter, length}
use Rattle.std.proofs.lemmas.Bool.Decides.{nat_tests}
use Rattle.std.proofs.lemmas.List.Elements.{filter-append}
use Rattle.wb_model.specs.Tables.{Case, lasts, Session, Who, TheUser, TheReporter, same_who, others, is_reporter_of, sessions_but}
use Rattle.wb_model.specs.Changes.{Deletes, LogsOut, Configures, Nothing, Change, LogsIn}
use Rattle.wb_model.specs.Host.{made, remaining, count_from, ends}
use Rattle.wb_model.proofs.Found.{filter_same, filter_both, filter_only}
use Rattle.wb_model.proofs.Leaving.{filter_swap, purge_sessions}
use Rattle.wb_model.proofs.SessionsLaw.{all_pass}

other_who : (r : ℕ) (v w : Who) → same_who w (TheReporter r) ≡ false → same_who v w ≡ true → same_who v (TheReporter r) ≡ false
other_who r (TheUser u) w a b = refl
other_who r (TheReporter n) (TheUser u) a b = absurd (grind (arith, b))
other_who r (TheReporter n) (TheReporter m) a b = grind (arith, nat_tests, a, b)

counted : (r : ℕ) (who : Who) (s z : Session) → same_who who (TheReporter r) ≡ false → (not (is_reporter_of r z.who) && (same_who z.who who && nat_le s.turn z.turn)) ≡ (same_who z.who who && nat_le s.turn z.turn)
counted r who s z other = by (same_who z.who who) refl
  where
    by : (b : Bool) → same_who z.who who ≡ b → (not (is_reporter_of r z.who) && (b && nat_le s.turn z.turn)) ≡ (b && nat_le s.turn z.turn)
    by true is = let away : same_who z.who (TheReporter r) ≡ false = other_who r z.who who other is in grind (arith, away)
    by false is = grind arith

count_but : (r : ℕ) (who : Who) (s : Session) (ss : List Session) → same_who who (TheReporter r) ≡ false → count_from who s (sessions_but r ss) ≡ count_from who s ss
count_but r who s ss other = ap length (filter_both (λ (z : Session). not (is_reporter_of r z.who)) _ ss ∙ filter_same _ _ (λ z. counted r who s z other) ss)

same_both : (r : ℕ) (v w : Who) → same_who v (TheReporter r) ≡ false → same_who v w ≡ true → same_who w (TheReporter r) ≡ false
same_both r v (TheUser u) a b = refl
same_both r (TheUser u) (TheReporter n) a b = absurd (grind (arith, b))
same_both r (TheReporter m) (TheReporter n) a b = grind (arith, nat_tests, a, b)

-- whether a change ends another's session
pub ends_but : (r : ℕ) (ch : Change) (ss : List Session) (s : Session) → same_who s.who (TheReporter r) ≡ false → ends ch (sessions_but r ss) s ≡ ends ch ss s
ends_but r (LogsIn new) ss s other = by (same_who s.who new.who) refl
  where
    by : (b : Bool) → same_who s.who new.who ≡ b → (b && nat_le 8 (count_from new.who s (sessions_but r ss))) ≡ (b && nat_le 8 (count_from new.who s ss))
    by true is = ap (nat_le 8) (count_but r new.who s ss (same_both r s.who new.who other is))
    by false is = refl
ends_but r _ ss s other = refl

-- ---- what a turn leaves and makes

-- a session that the change makes is of another caller
abbrev pub MadeElsewhere : ℕ → Change → Type 0
MadeElsewhere r (LogsIn new) = is_reporter_of r new.who ≡ false
MadeElsewhere r _ = Unit {0}

-- the change is a login or a logout of r's reporter, or r's deletion, or touches no session
abbrev pub IsGone : ℕ → Change → Type 0
IsGone r (LogsIn new) = is_reporter_of r new.who ≡ true
IsGone r (LogsOut turn who) = is_reporter_of r who ≡ true
IsGone r (Configures setting) = ⊥
IsGone r (Deletes n) = n ≡ r
IsGone r _ = Unit {0}

kept_test : (r : ℕ) (ch : Change) (zs : List Session) (s : Session) → (not (is_reporter_of r s.who) && not (ends ch (sessions_but r zs) s)) ≡ (not (is_reporter_of r s.who) && not (ends ch zs s))
kept_test r ch zs s = by (is_reporter_of r s.who) refl
  where
    by : (b : Bool) → is_reporter_of r s.who ≡ b → (not b && not (ends ch (sessions_but r zs) s)) ≡ (not b && not (ends ch zs s))
    by true is = refl
    by false is = ap not (ends_but r ch zs s is)

remaining_but : (r : ℕ) (ch : Change) (zs : List Session) → remaining ch (sessions_but r zs) ≡ sessions_but r (remaining ch zs)
remaining_but r ch zs =
    filter_both (λ (s : Session). not (is_reporter_of r s.who)) (λ s. not (ends ch (sessions_but r zs) s)) zs
    ∙ (filter_same _ _ (kept_test r ch zs) zs
    ∙ (sym (filter_both (λ (s : Session). not (is_reporter_of r s.who)) (λ s. not (ends ch zs s)) zs)
    ∙ filter_swap (λ s. not (ends ch zs s)) (λ (s : Session). not (is_reporter_of r s.who)) zs))

made_but : (r : ℕ) (ch : Change) → MadeElsewhere r ch → sessions_but r (made ch) ≡ made ch
made_but r (LogsIn new) off = filter_only (λ (s : Session). not (is_reporter_of r s.who)) new (ap not off)
made_but r _ off = refl

-- a change of others
pub kept_recent : (r time : ℕ) (cs : List Case) (ch : Change) (zs : List Session) → MadeElsewhere r ch →
    remaining ch (sessions_but r zs) ++ filter (lasts time (others r cs)) (made ch) ≡ sessions_but r (remaining ch zs ++ filter (lasts time cs) (made ch))
kept_recent r time cs ch zs off =
    ap (λ ss. ss ++ filter (lasts time (others r cs)) (made ch)) (remaining_but r ch zs)
    ∙ (ap (λ ss. sessions_but r (remaining ch zs) ++ filter (lasts time (others r cs)) ss) (sym (made_but r ch off))
    ∙ (ap (λ ss. sessions_but r (remaining ch zs) ++ ss) (purge_sessions r time cs (made ch))
    ∙ sym (filter-append (λ (s : Session). not (is_reporter_of r s.who)) (remaining ch zs) (filter (lasts time cs) (made ch)))))

not_same : (r : ℕ) (v w : Who) → is_reporter_of r w ≡ true → is_reporter_of r v ≡ false → same_who v w ≡ false
not_same r v (TheUser u) a b = absurd (grind (arith, a))
not_same r (TheUser u) (TheReporter n) a b = refl
not_same r (TheReporter m) (TheReporter n) a b = grind (arith, nat_tests, a, b)

-- a change of r's reporter ends no other's session
spared : (r : ℕ) (ch : Change) (zs : List Session) (s : Session) → IsGone r ch → is_reporter_of r s.who ≡ false → ends ch zs s ≡ false
spared r (LogsIn new) zs s on off = ap (λ b. b && nat_le 8 (count_from new.who s zs)) (not_same r s.who new.who on off)
spared r (LogsOut turn who) zs s on off = let k : same_who s.who who ≡ false = not_same r s.who who on off in grind (arith, k)
spared r (Configures setting) zs s on off = absurd on
spared r (Deletes n) zs s on off = ap (λ k. is_reporter_of k s.who) on ∙ off
spared r _ zs s on off = refl

none_made : (r : ℕ) (ch : Change) → IsGone r ch → sessions_but r (made ch) ≡ []
none_made r (LogsIn new) on = ap (λ b. cond (not b) (new ∷ []) []) on
none_made r _ on = refl

-- a change of r's reporter, in whose place stands nothing
pub gone_recent : (r time : ℕ) (cs : List Case) (ch : Change) (zs : List Session) → IsGone r ch →
    remaining Nothing (sessions_but r zs) ++ filter (lasts time (others r cs)) (made Nothing) ≡ sessions_but r (remaining ch zs ++ filter (lasts time cs) (made ch))
gone_recent r time cs ch zs on =
    ap (λ ss. ss ++ []) (all_pass (sessions_but r zs))
    ∙ (ap (λ ss. sessions_but r zs ++ ss) none
    ∙ (ap (λ ss. ss ++ sessions_but r (filter (lasts time cs) (made ch))) left
    ∙ sym (filter-append (λ (s : Session). not (is_reporter_of r s.who)) (remaining ch zs) (filter (lasts time cs) (made ch)))))
  where
    none : [] ≡ sessions_but r (filter (lasts time cs) (made ch))
    none = sym (filter_swap (λ (s : Session). not (is_reporter_of r s.who)) (lasts time cs) (made ch) ∙ ap (filter (lasts time cs)) (none_made r ch on))

    test : (s : Session) → not (is_reporter_of r s.who) ≡ (not (is_reporter_of r s.who) && not (ends ch zs s))
    test s = by (is_reporter_of r s.who) refl
      where
        by : (b : Bool) → is_reporter_of r s.who ≡ b → not b ≡ (not b && not (ends ch zs s))
        by true is = refl
        by false is = sym (ap not (spared r ch zs s on is))

    left : sessions_but r zs ≡ sessions_but r (remaining ch zs)
    left = filter_same _ _ test zs ∙ (sym (filter_both (λ (s : Session). not (is_reporter_of r s.who)) (λ s. not (ends ch zs s)) zs) ∙ filter_swap (λ s. not (ends ch zs s)) (λ (s : Session). not (is_reporter_of r s.who)) zs)
