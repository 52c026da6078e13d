-- The sessions that stand, as a recursion on the past: what stood just before each turn, with what the turn ended and made.
use Rattle.std.proofs.Common.{◌≡◌, ◌≢◌, ◌⊎◌, inl, inr, ℕ, ◌+◌, ◌≤◌, Bool, true, false, cond, eqb, List, [], ◌∷◌, ◌++◌, refl, sym, ap, ◌∙◌, subst, arith}
use Rattle.std.specs.Prelude.{nat_lt, nat_le, not, max, filter, map, ◌&&◌, ◌||◌}
use Rattle.std.proofs.lemmas.Bool.Decides.{nat_tests}
use Rattle.std.proofs.lemmas.List.Elements.{filter-append}
use Rattle.wb_model.specs.declared.entry.Entry.{Entry}
use Rattle.wb_model.specs.declared.event.Event.{Event}
use Rattle.wb_model.specs.Tables.{Case, Session, Who, TheUser, TheReporter, is_there, is_live, stays, lasts}
use Rattle.wb_model.specs.Changes.{Change, Begins, Notes, Deletes}
use Rattle.wb_model.specs.Host.{ends, made, remaining}
use Rattle.wb_model.specs.Past.{Past, Opening, Turn, turns, now, registry, alone_at, last, numbers_after, numbers, grown, lives_at, trail, change_at, has_report, live, case_of, live_reports, recent, logins, is_ended, stands, standing_sessions}
use Rattle.wb_model.specs.Opened.{Opened}
use Rattle.wb_model.proofs.Found.{decide, filter_same, filter_both, filter_held, Held, held_filter}
use Rattle.wb_model.proofs.PastLaw.{both_hold, either, or_later, live_earlier, there_lives}
use Rattle.std.specs.List.{list_any}
use Rattle.wb_model.proofs.SessionsLaw.{ended_later, logins_within, made_turn, Within}
use Rattle.wb_model.proofs.TurnLaw.{live_kept}

-- ---- what is live falls

-- r's trail is as before, or r was live
grown_lives : (ch : Change) (k r : ℕ) (lives : Bool) (t : List Entry) → r ≤ k → (grown ch k r lives t ≡ t) ⊎ (lives ≡ true)
grown_lives (Begins e) k r lives t le = inl (let away : eqb (k + 1) r ≡ false = grind (arith, nat_tests, le) in ap (λ b. cond b (e ∷ []) t) away)
grown_lives (Notes n e) k r true t le = inr refl
grown_lives (Notes n e) k r false t le = inl (grind arith)
grown_lives _ k r lives t le = inl refl

-- a report that was drawn before and is before its expiry later was so
lives_falls : (past : Past Opened) (e : Event) (time r : ℕ) → max (now past) e.moment ≤ time → r ≤ last past → lives_at (registry (Turn e past)) time r (trail (Turn e past) r) ≡ true → lives_at (registry past) (max (now past) e.moment) r (trail past r) ≡ true
lives_falls past e time r le most is = by (grown_lives (change_at past e) (last past) r (lives_at (registry past) (max (now past) e.moment) r (trail past r)) (trail past r) most)
  where
    by : (trail (Turn e past) r ≡ trail past r) ⊎ (lives_at (registry past) (max (now past) e.moment) r (trail past r) ≡ true) → lives_at (registry past) (max (now past) e.moment) r (trail past r) ≡ true
    by (inr lives) = lives
    by (inl same) = live_earlier (registry past).settings (max (now past) e.moment) time (case_of past r) le
        (sym (live_kept (alone_at past e) (registry past) time (case_of past r)) ∙ (ap (λ t. is_live (registry (Turn e past)).settings time (record { number = r; trail = t })) (sym same) ∙ is))

any_pushed : (k r : ℕ) (ns : List ℕ) → r ≤ k → list_any (λ n. eqb n r) (ns ++ (k + 1) ∷ []) ≡ true → list_any (λ n. eqb n r) ns ≡ true
any_pushed k r [] le is = absurd (let away : eqb (k + 1) r ≡ false = grind (arith, nat_tests, le) in grind (arith, is, away))
any_pushed k r (n ∷ ns) le is = by (eqb n r) is (any_pushed k r ns le)
  where
    by : (b : Bool) → (b || list_any (λ m. eqb m r) (ns ++ (k + 1) ∷ [])) ≡ true → (list_any (λ m. eqb m r) (ns ++ (k + 1) ∷ []) ≡ true → list_any (λ m. eqb m r) ns ≡ true) → (b || list_any (λ m. eqb m r) ns) ≡ true
    by true i up = refl
    by false i up = up i

any_passed : (p : ℕ → Bool) (r : ℕ) (ns : List ℕ) → list_any (λ n. eqb n r) (filter p ns) ≡ true → list_any (λ n. eqb n r) ns ≡ true
any_passed p r [] is = is
any_passed p r (n ∷ ns) is = by (p n) is (any_passed p r ns)
  where
    by : (b : Bool) → list_any (λ m. eqb m r) (cond b (n ∷ filter p ns) (filter p ns)) ≡ true → (list_any (λ m. eqb m r) (filter p ns) ≡ true → list_any (λ m. eqb m r) ns ≡ true) → (eqb n r || list_any (λ m. eqb m r) ns) ≡ true
    by true i up = either (eqb n r) (list_any (λ m. eqb m r) (filter p ns)) (list_any (λ m. eqb m r) ns) i up
    by false i up = or_later (eqb n r) (list_any (λ m. eqb m r) ns) (up i)

-- and was not deleted
report_falls : (ch : Change) (k r : ℕ) (ns : List ℕ) → r ≤ k → list_any (λ n. eqb n r) (numbers_after ch k ns) ≡ true → list_any (λ n. eqb n r) ns ≡ true
report_falls (Begins e) k r ns le is = any_pushed k r ns le is
report_falls (Deletes n) k r ns le is = any_passed (λ m. not (eqb m n)) r ns is
report_falls _ k r ns le is = is

pub and_left : (a b : Bool) → (a && b) ≡ true → a ≡ true
and_left a b is = grind (arith, is)

pub and_right : (a b : Bool) → (a && b) ≡ true → b ≡ true
and_right a b is = grind (arith, is)

-- a report that was drawn before and is live later was live
pub live_falls : (past : Past Opened) (e : Event) (time r : ℕ) → max (now past) e.moment ≤ time → r ≤ last past → live (Turn e past) r time ≡ true → live past r (max (now past) e.moment) ≡ true
live_falls past e time r le most is =
    both_hold (has_report past r) (lives_at (registry past) (max (now past) e.moment) r (trail past r))
    (report_falls (change_at past e) (last past) r (numbers past) most (and_left (has_report (Turn e past) r) (lives_at (registry (Turn e past)) time r (trail (Turn e past) r)) is))
    (lives_falls past e time r le most (and_right (has_report (Turn e past) r) (lives_at (registry (Turn e past)) time r (trail (Turn e past) r)) is))

in_numbers : (f : ℕ → Case) (p : Case → Bool) (r : ℕ) (ns : List ℕ) → ((n : ℕ) → (f n).number ≡ n) → is_there r (filter p (map f ns)) ≡ true → Held r ns
in_numbers f p r [] own e = absurd (grind (arith, e))
in_numbers f p r (n ∷ ns) own e = by (p (f n)) (decide n r) e (in_numbers f p r ns own)
  where
    by : (b : Bool) → (n ≡ r) ⊎ (n ≢ r) → is_there r (cond b (f n ∷ filter p (map f ns)) (filter p (map f ns))) ≡ true → (is_there r (filter p (map f ns)) ≡ true → Held r ns) → (r ≡ n) ⊎ Held r ns
    by b (inl here) k ih = inl (sym here)
    by true (inr ne) k ih = inr (ih (let number : (f n).number ≡ n = own n in grind (arith, nat_tests, k, ne, number)))
    by false (inr ne) k ih = inr (ih k)

there_in : (past : Past Opened) (time r : ℕ) (ns : List ℕ) → Held r ns → lives_at (registry past) time r (trail past r) ≡ true → is_there r (filter (is_live (registry past).settings time) (map (case_of past) ns)) ≡ true
there_in past time r [] h lives = absurd h
there_in past time r (n ∷ ns) (inl e) lives = by (lives_at (registry past) time n (trail past n)) (subst (λ k. lives_at (registry past) time k (trail past k) ≡ true) e lives)
  where
    by : (b : Bool) → b ≡ true → is_there r (cond b (case_of past n ∷ filter (is_live (registry past).settings time) (map (case_of past) ns)) (filter (is_live (registry past).settings time) (map (case_of past) ns))) ≡ true
    by true k = let here : n ≡ r = sym e in grind (arith, nat_tests, here)
    by false k = absurd (grind (arith, k))
there_in past time r (n ∷ ns) (inr h) lives = by (lives_at (registry past) time n (trail past n)) (there_in past time r ns h lives)
  where
    by : (b : Bool) → is_there r (filter (is_live (registry past).settings time) (map (case_of past) ns)) ≡ true → is_there r (cond b (case_of past n ∷ filter (is_live (registry past).settings time) (map (case_of past) ns)) (filter (is_live (registry past).settings time) (map (case_of past) ns))) ≡ true
    by true k = grind (arith, k)
    by false k = k

before_draw : (ch : Change) (k r : ℕ) (ns : List ℕ) → r ≤ k → Held r (numbers_after ch k ns) → Held r ns
before_draw (Begins e) k r ns le h = pushed ns h
  where
    pushed : (xs : List ℕ) → Held r (xs ++ (k + 1) ∷ []) → Held r xs
    pushed [] (inl e) = absurd (omega (arith, le, e))
    pushed [] (inr h) = absurd h
    pushed (x ∷ xs) (inl e) = inl e
    pushed (x ∷ xs) (inr h) = inr (pushed xs h)
before_draw (Deletes n) k r ns le h = (held_filter (λ m. not (eqb m n)) ns r h).0
before_draw _ k r ns le h = h

there_falls : (past : Past Opened) (e : Event) (time r : ℕ) → max (now past) e.moment ≤ time → r ≤ last past → is_there r (live_reports (Turn e past) time) ≡ true → is_there r (live_reports past (max (now past) e.moment)) ≡ true
there_falls past e time r le most is =
    there_in past (max (now past) e.moment) r (numbers past)
    (before_draw (change_at past e) (last past) r (numbers past) most (in_numbers (case_of (Turn e past)) _ r (numbers (Turn e past)) (λ n. refl) is))
    (lives_falls past e time r le most (there_lives (Turn e past) time r (numbers (Turn e past)) is))

lasts_falls : (past : Past Opened) (e : Event) (time : ℕ) (s : Session) → max (now past) e.moment ≤ time → Within (turns past) (last past) s → lasts time (live_reports (Turn e past) time) s ≡ true → lasts (max (now past) e.moment) (live_reports past (max (now past) e.moment)) s ≡ true
lasts_falls past e time s le within is =
    let stay : stays (live_reports (Turn e past) time) s.who ≡ true = grind (arith, is) in
    let clock : nat_lt time (s.at + 14_400) ≡ true = grind (arith, is) in
    let stayed : stays (live_reports past (max (now past) e.moment)) s.who ≡ true = by s.who within.1 stay in
    let before : nat_lt (max (now past) e.moment) (s.at + 14_400) ≡ true = grind (arith, nat_tests, clock, le) in
    grind (arith, stayed, before)
  where
    by : (w : Who) → Rattle.wb_model.specs.Opened.IsWithin (last past) w → stays (live_reports (Turn e past) time) w ≡ true → stays (live_reports past (max (now past) e.moment)) w ≡ true
    by (TheUser u) most k = refl
    by (TheReporter n) most k = there_falls past e time n le most k

-- ---- the recursion

old_tests : (before after ended later ends : Bool) → (after ≡ true → before ≡ true) → later ≡ true → (((before && not ended) && not ends) && after) ≡ (after && not (ended || (later && ends)))
old_tests true after ended later ends up is = grind (arith, is)
old_tests false true ended later ends up is = absurd (let bad : false ≡ true = up refl in grind (arith, bad))
old_tests false false ended later ends up is = refl

new_tests : (after ended later ends : Bool) → ended ≡ false → later ≡ false → after ≡ (after && not (ended || (later && ends)))
new_tests after ended later ends a b = grind (arith, a, b)

opening_tests : (l : Bool) → l ≡ (l && not false)
opening_tests l = grind arith

-- at a moment that is not past, those of the recent sessions that last are the ones that stand
pub recent_stand : (past : Past Opened) (time : ℕ) → now past ≤ time → filter (lasts time (live_reports past time)) (recent past) ≡ standing_sessions past time
recent_stand (Opening o) time le = filter_same _ (stands (Opening o) time) (λ s. opening_tests (lasts time (live_reports (Opening o) time) s)) o.tables.plain.sessions
recent_stand (Turn e past) time le = by (recent_stand past (max (now past) e.moment) (omega arith))
  where
    here : ℕ
    here = max (now past) e.moment

    ch : Change
    ch = change_at past e

    after : Session → Bool
    after = lasts time (live_reports (Turn e past) time)

    new : List Session
    new = filter (lasts (max (now past) e.moment) (live_reports past (max (now past) e.moment))) (made (change_at past e))

    kept : filter after (filter (λ s. not (ends ch (standing_sessions past here) s)) (standing_sessions past here)) ≡ filter (stands (Turn e past) time) (logins past)
    kept = ap (filter after) (filter_both (stands past here) (λ s. not (ends ch (standing_sessions past here) s)) (logins past))
        ∙ (filter_both (λ s. stands past here s && not (ends ch (standing_sessions past here) s)) after (logins past)
        ∙ filter_held _ (stands (Turn e past) time) (logins past) (λ s h. let w = logins_within past s h in
        old_tests (lasts here (live_reports past here) s) (after s) (is_ended past s) (nat_le s.turn (turns past)) (ends ch (standing_sessions past here) s) (lasts_falls past e time s le w) (let turn : s.turn ≤ turns past = w.0 in grind (arith, nat_tests, turn))))

    begun : filter after new ≡ filter (stands (Turn e past) time) new
    begun = filter_held after (stands (Turn e past) time) new (λ s h.
        let turn : s.turn ≡ turns past + 1 = made_turn past e s (held_filter (lasts here (live_reports past here)) (made ch) s h).0 in
        new_tests (after s) (is_ended past s) (nat_le s.turn (turns past)) _ (ended_later past s (omega (arith, turn))) (grind (arith, nat_tests, turn)))

    by : filter (lasts here (live_reports past here)) (recent past) ≡ standing_sessions past here → filter after (recent (Turn e past)) ≡ standing_sessions (Turn e past) time
    by ih =
        ap (λ ss. filter after (remaining ch ss ++ new)) ih
        ∙ (filter-append after (remaining ch (standing_sessions past here)) new
        ∙ (ap (λ ss. ss ++ filter after new) kept
        ∙ (ap (λ ss. filter (stands (Turn e past) time) (logins past) ++ ss) begun
        ∙ sym (filter-append (stands (Turn e past) time) (logins past) new))))
