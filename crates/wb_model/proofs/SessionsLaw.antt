-- The sessions that stand after a turn.
use Rattle.std.proofs.Common.{◌≡◌, ◌⊎◌, inl, inr, ℕ, ◌+◌, ◌≤◌, Bool, true, false, cond, eqb, List, [], ◌∷◌, ◌++◌, append-nil, Option, Some, None, refl, sym, ap, ◌∙◌, subst, arith}
use Rattle.std.specs.Prelude.{◌<◌, nat_lt, nat_le, not, max, filter, option_map, ◌&&◌, ◌||◌}
use Rattle.std.proofs.lemmas.Bool.Decides.{nat_tests}
use Rattle.std.proofs.lemmas.List.Elements.{filter-append}
use Rattle.wb_base.specs.declared.callers.Principal.{Principal}
use Rattle.wb_model.specs.declared.command.Asked.{Asked}
use Rattle.wb_model.specs.declared.entry.Entry.{Entry}
use Rattle.wb_model.specs.declared.event.Event.{Event}
use Rattle.wb_model.specs.declared.event.What.{What}
use Rattle.wb_model.specs.declared.event.What.TheVariants.{Did, Gap, Idle, Lost}
use Rattle.wb_model.specs.Tables.{Registry, Case, Session, Who, TheUser, TheReporter, is_there, stays, lasts, others, is_reporter_of}
use Rattle.wb_model.specs.Requests.{Outcome, outline, outcome}
use Rattle.wb_model.specs.Changes.{TurnContext, Change, Begins, Notes, Deletes, LogsIn, LogsOut, Configures}
use Rattle.wb_model.specs.Effects.{Effect, Comes, Sets}
use Rattle.wb_model.specs.Commands.{effect_of}
use Rattle.wb_model.specs.OnReports.{change_on}
use Rattle.wb_model.specs.Rules.{change_alone}
use Rattle.wb_model.proofs.Effects.{set_is}
use Rattle.wb_model.specs.Host.{cases_after, ends, made, remaining, sessions_after}
use Rattle.wb_model.specs.Past.{Past, Opening, Turn, registry, last, trail, change_at, live_reports, logins, is_ended, stands, standing_sessions, plain, turns, now, at_of, who_of, report_of, about, change_by, change_in, trail_of, drew}
use Rattle.wb_model.specs.Opened.{Opened, IsWithin, AreWithin}
use Rattle.wb_model.proofs.Found.{filter_both, filter_only, Held, held_filter, filter_held, held_append}
use Rattle.wb_model.proofs.Fitting.{Fits}
use Rattle.wb_model.proofs.PastLaw.{below_there, pushed, there_noted}
use Rattle.wb_model.proofs.Leaving.{stays_without, and_first}

-- the change is no deletion
abbrev Leaves : Change → Type 0
Leaves (Deletes n) = ⊥
Leaves _ = Unit {0}

-- whether a report that was drawn before is there
there_after : (ch : Change) (k q : ℕ) (cs : List Case) → Leaves ch → q ≤ k → is_there q (cases_after ch k cs) ≡ is_there q cs
there_after (Begins e) k q cs leaves le = pushed q cs (record { number = k + 1; trail = e ∷ [] }) ∙ (let away : eqb (k + 1) q ≡ false = grind (arith, nat_tests, le) in grind (arith, away))
there_after (Notes n e) k q cs leaves le = there_noted q n e cs
there_after (Deletes n) k q cs leaves le = absurd leaves
there_after _ k q cs leaves le = refl

stays_after : (ch : Change) (k : ℕ) (cs : List Case) (w : Who) → Leaves ch → IsWithin k w → stays (cases_after ch k cs) w ≡ stays cs w
stays_after ch k cs (TheUser u) leaves within = refl
stays_after ch k cs (TheReporter n) leaves within = there_after ch k n cs leaves within

still : (ch : Change) (k time : ℕ) (cs : List Case) (ss : List Session) (s : Session) → Leaves ch → IsWithin k s.who → (lasts time (cases_after ch k cs) s && not (ends ch ss s)) ≡ (lasts time cs s && not (ends ch ss s))
still ch k time cs ss s leaves within = ap (λ b. (nat_lt time (s.at + 14_400) && b) && not (ends ch ss s)) (stays_after ch k cs s.who leaves within)

-- a session that a change does not end lasts after it where it lasted before it
lasts_after : (ch : Change) (k time : ℕ) (cs : List Case) (ss : List Session) (s : Session) → IsWithin k s.who → (lasts time (cases_after ch k cs) s && not (ends ch ss s)) ≡ (lasts time cs s && not (ends ch ss s))
lasts_after (Deletes n) k time cs ss s within = and_first (nat_lt time (s.at + 14_400)) (stays (others n cs) s.who) (stays cs s.who) (not (is_reporter_of n s.who)) (stays_without n cs s.who)
lasts_after (Begins e) k time cs ss s within = still (Begins e) k time cs ss s tt within
lasts_after (Notes n e) k time cs ss s within = still (Notes n e) k time cs ss s tt within
lasts_after _ k time cs ss s within = refl

-- a session's turn and report are not to come
abbrev pub Within : ℕ → ℕ → Session → Type 0
Within turn k s = (s.turn ≤ turn) × IsWithin k s.who

pub who_more : (k l : ℕ) (w : Who) → k ≤ l → IsWithin k w → IsWithin l w
who_more k l (TheUser u) le within = tt
who_more k l (TheReporter n) le within = omega (arith, le, within)

pub more_within : (turn k l : ℕ) (s : Session) → k ≤ l → Within turn k s → Within (turn + 1) l s
more_within turn k l s le within = (let before : s.turn ≤ turn = within.0 in omega (arith, before), who_more k l s.who le within.1)

pub are_within : (turn k : ℕ) (ss : List Session) (s : Session) → AreWithin turn k ss → Held s ss → Within turn k s
are_within turn k [] s are h = absurd h
are_within turn k (z ∷ ss) s are (inl e) = subst (Within turn k) (sym e) are.0
are_within turn k (z ∷ ss) s are (inr h) = are_within turn k ss s are.1 h

-- a session that begins is of its turn and of its moment
abbrev pub IsBegun : TurnContext → Session → Type 0
IsBegun at s = (s.turn ≡ at.turn) × (s.at ≡ at.time)

begun : (at : TurnContext) (s z : Session) → s ≡ z → IsBegun at z → IsBegun at s
begun at s z e is = subst (IsBegun at) (sym e) is

begun_on : (at : TurnContext) (g : Registry) (who : Who) (n : ℕ) (trail : List Entry) (e : Effect) (s : Session) → Held s (made (change_on at g who n trail e)) → IsBegun at s
begun_on at g who n trail (Comes role) s (inl e) = begun at s _ e (refl, refl)
begun_on at g who n trail (Comes role) s (inr h) = absurd h
begun_on at g who n trail _ s h = absurd h

begun_alone : (at : TurnContext) (g : Registry) (who : Option Who) (o : Outcome) (e : Effect) (s : Session) → Held s (made (change_alone at g who o e)) → IsBegun at s
begun_alone at g who o (Comes role) s (inl e) = begun at s _ e (refl, refl)
begun_alone at g who o (Comes role) s (inr h) = absurd h
begun_alone at g who o (Sets t proposal) s h = set_is (λ x. Held s (made x) → IsBegun at s) _ (λ k. absurd k) (λ x is k. absurd k) h
begun_alone at g who o _ s h = absurd h

begun_by : (at : TurnContext) (g : Registry) (trail : List Entry) (a : Asked) (by : Option Principal) (place : Option ℕ) (s : Session) → Held s (made (change_by at g trail a by place)) → IsBegun at s
begun_by at g trail a by None s h = begun_alone at g (option_map who_of by) (outcome g [] a.command) (effect_of at g (option_map who_of by) a.session [] (outline a.command)) s h
begun_by at g trail a None (Some n) s h = absurd h
begun_by at g trail a (Some by) (Some n) s h = begun_on at g (who_of by) n trail (effect_of at g (Some (who_of by)) a.session trail (outline a.command)) s h

begun_in : (w : What) (at : TurnContext) (g : Registry) (trail : List Entry) (s : Session) → Held s (made (change_in w at g trail)) → IsBegun at s
begun_in (Did a by) at g trail s h = begun_by at g trail a by (report_of a.command by) s h
begun_in (Gap t) at g trail s h = absurd h
begun_in Idle at g trail s h = absurd h
begun_in Lost at g trail s h = absurd h

made_begun : (past : Past Opened) (e : Event) (s : Session) → Held s (made (change_at past e)) → IsBegun (at_of past e) s
made_begun past e s h = begun_in e.what (at_of past e) (registry past) (trail_of (about e.what) (trail past)) s h

pub made_turn : (past : Past Opened) (e : Event) (s : Session) → Held s (made (change_at past e)) → s.turn ≡ turns past + 1
made_turn past e s h = (made_begun past e s h).0

pub made_moment : (past : Past Opened) (e : Event) (s : Session) → Held s (made (change_at past e)) → s.at ≡ max (now past) e.moment
made_moment past e s h = (made_begun past e s h).1

pub stays_within : (past : Past Opened) (time : ℕ) (w : Who) → stays (live_reports past time) w ≡ true → IsWithin (last past) w
stays_within past time (TheUser u) e = tt
stays_within past time (TheReporter n) e = below_there past time n e

pub lasts_stays : (time : ℕ) (cs : List Case) (s : Session) → lasts time cs s ≡ true → stays cs s.who ≡ true
lasts_stays time cs s e = grind (arith, e)

pub last_more : (b : Bool) (n : ℕ) → n ≤ cond b (n + 1) n
last_more true n = omega arith
last_more false n = omega arith

-- no login is of a turn or of a report to come
pub logins_within : (past : Past Opened) (s : Session) → Held s (logins past) → Within (turns past) (last past) s
logins_within (Opening o) s h = absurd (subst (λ ss. Held s ss) o.sound.sessions h)
logins_within (Turn e past) s h = by (held_append (logins past) (filter (lasts time (live_reports past time)) (made (change_at past e))) s h) (logins_within past s)
  where
    time : ℕ
    time = max (now past) e.moment

    by : Held s (logins past) ⊎ Held s (filter (lasts time (live_reports past time)) (made (change_at past e))) → (Held s (logins past) → Within (turns past) (last past) s) → Within (turns past + 1) (last (Turn e past)) s
    by (inl old) ih = more_within (turns past) (last past) (last (Turn e past)) s (last_more (drew past e) (last past)) (ih old)
    by (inr new) ih =
        let k = held_filter (lasts time (live_reports past time)) (made (change_at past e)) s new in
        let turn : s.turn ≡ turns past + 1 = made_turn past e s k.0 in
        (omega (arith, turn), who_more (last past) (last (Turn e past)) s.who (last_more (drew past e) (last past)) (stays_within past time s.who (lasts_stays time (live_reports past time) s k.1)))

pub neither : (before later ends : Bool) → before ≡ false → later ≡ false → (before || (later && ends)) ≡ false
neither before later ends a b = grind (arith, a, b)

-- no turn ended a session that is to come
pub ended_later : (past : Past Opened) (s : Session) → turns past < s.turn → is_ended past s ≡ false
ended_later (Opening o) s lt = refl
ended_later (Turn e past) s lt =
    neither (is_ended past s) (nat_le s.turn (turns past)) _ (ended_later past s (omega (arith, lt))) (grind (arith, nat_tests, lt))

-- s stands after a turn with this change
abbrev pub stands_after : Past Opened → ℕ → Change → Session → Bool
stands_after past time ch s = lasts time (cases_after ch (last past) (live_reports past time)) s && not (is_ended past s || (nat_le s.turn (turns past) && ends ch (standing_sessions past time) s))

pub both_tests : (l k ended later ends : Bool) → (k && not ends) ≡ (l && not ends) → later ≡ true → (k && not (ended || (later && ends))) ≡ ((l && not ended) && not ends)
both_tests l k ended later true a b = grind (arith, b)
both_tests l k ended later false a b = grind (arith, a, b)

pub old_stands : (past : Past Opened) (time : ℕ) (ch : Change) (s : Session) → Within (turns past) (last past) s → stands_after past time ch s ≡ (stands past time s && not (ends ch (standing_sessions past time) s))
old_stands past time ch s within =
    let turn : s.turn ≤ turns past = within.0 in
    both_tests (lasts time (live_reports past time) s) _ (is_ended past s) (nat_le s.turn (turns past)) (ends ch (standing_sessions past time) s)
    (lasts_after ch (last past) time (live_reports past time) (standing_sessions past time) s within.1) (grind (arith, nat_tests, turn))

pub new_test : (l ended later ends : Bool) → l ≡ true → ended ≡ false → later ≡ false → (l && not (ended || (later && ends))) ≡ true
new_test l ended later ends a b c = grind (arith, a, b, c)

pub new_stands : (past : Past Opened) (at : TurnContext) (ch : Change) → Fits at (plain past at.time) ch → ((s : Session) → Held s (made ch) → s.turn ≡ turns past + 1) →
    filter (stands_after past at.time ch) (filter (lasts at.time (live_reports past at.time)) (made ch)) ≡ made ch
new_stands past at (LogsIn s) fits turns_are =
    let turn : s.turn ≡ turns past + 1 = turns_are s (inl refl) in
    ap (filter (stands_after past at.time (LogsIn s))) (filter_only (lasts at.time (live_reports past at.time)) s fits)
    ∙ filter_only (stands_after past at.time (LogsIn s)) s
    (new_test (lasts at.time (live_reports past at.time) s) (is_ended past s) (nat_le s.turn (turns past)) (ends (LogsIn s) (standing_sessions past at.time) s) fits (ended_later past s (omega (arith, turn))) (grind (arith, nat_tests, turn)))
new_stands past at _ fits turns_are = refl

pub all_pass : {X : Type 0} (xs : List X) → filter (λ x. not false) xs ≡ xs
all_pass [] = refl
all_pass (x ∷ xs) = ap (λ ys. x ∷ ys) (all_pass xs)

-- what a change leaves and makes of the sessions
pub sessions_are : (ch : Change) (ss : List Session) → remaining ch ss ++ made ch ≡ sessions_after ch ss
sessions_are (LogsIn new) ss = refl
sessions_are (LogsOut turn who) ss = append-nil (remaining (LogsOut turn who) ss)
sessions_are (Configures setting) ss = append-nil (remaining (Configures setting) ss)
sessions_are (Deletes n) ss = append-nil (remaining (Deletes n) ss)
sessions_are _ ss = append-nil (filter (λ s. not false) ss) ∙ all_pass ss

-- the sessions that stand after a change that fits
pub sessions_law : (past : Past Opened) (at : TurnContext) (ch : Change) → Fits at (plain past at.time) ch → ((s : Session) → Held s (made ch) → s.turn ≡ turns past + 1) →
    filter (stands_after past at.time ch) (logins past ++ filter (lasts at.time (live_reports past at.time)) (made ch)) ≡ sessions_after ch (standing_sessions past at.time)
sessions_law past at ch fits turns_are =
    filter-append (stands_after past at.time ch) (logins past) (filter (lasts at.time (live_reports past at.time)) (made ch))
    ∙ (ap (λ ss. filter (stands_after past at.time ch) (logins past) ++ ss) (new_stands past at ch fits turns_are)
    ∙ (ap (λ ss. ss ++ made ch)
    (filter_held (stands_after past at.time ch) _ (logins past) (λ s h. old_stands past at.time ch s (logins_within past s h))
    ∙ sym (filter_both (stands past at.time) (λ s. not (ends ch (standing_sessions past at.time) s)) (logins past)))
    ∙ sessions_are ch (standing_sessions past at.time)))
