-- What the hosts of a past that verdicts made hold is such that its rows are read back.
use Rattle.std.proofs.Common.{◌≡◌, ◌≢◌, ◌⊎◌, inl, inr, ℕ, ◌≤◌, Bool, true, false, cond, List, [], ◌∷◌, None, refl, sym, ap, ◌∙◌, subst, arith}
use Rattle.wb_model.specs.declared.command.Asked.{Asked}
use Rattle.wb_model.specs.declared.event.Event.{Event}
use Rattle.wb_model.specs.declared.event.What.{What}
use Rattle.wb_model.specs.declared.event.What.TheVariants.{Did, Gap, Idle, Lost}
use Rattle.wb_model.specs.Commands.{tenant_of, is_read, fits_command}
use Rattle.wb_model.specs.Tables.{is_live, is_there}
use Rattle.wb_model.specs.Targets.{Target, Nobody, Alone, On}
use Rattle.wb_model.specs.Requests.{Frame}
use Rattle.wb_model.specs.Changes.{Nothing, Draws, Verdict, Refused, Accepted}
use Rattle.wb_model.specs.Host.{Tables}
use Rattle.wb_model.specs.Opened.{AtMost, Opened}
use Rattle.wb_model.specs.Past.{Past, Opening, Turn, now, registry, last, numbers, sealed, live_reports, tables, held}
use Rattle.wb_model.specs.PastTurns.{at_frame, verdict_at, target_at, did, what_by, what_at}
use Rattle.wb_model.specs.Pasts.{AllOpened, seen, part, time, has_tenant, what_in, with_turn}
use Rattle.wb_model.specs.Tenants.{tenant_at}
use Rattle.wb_model.specs.Readings.{Reading, Asks, Refuses}
use Rattle.wb_model.specs.Scripts.{Place, Loss, NotLost, ByKeeper, ByMemory, Unread, frame_of, play_asked, play_by, play, past_after}
use Rattle.wb_model.specs.ByVerdicts.{IsByVerdict, AreByVerdicts}
use Rattle.wb_model.specs.Reopened.{without_sessions}
use Rattle.wb_model.specs.Readable.{AreReadable, IsRanged, AreRanged, AreTimely, OpensReadable}
use Rattle.wb_model.proofs.Found.{decide}
use Rattle.wb_model.proofs.PastLaw.{numbers_below}
use Rattle.wb_model.proofs.HeldTables.{held_tables}
use Rattle.wb_model.proofs.InOrder.{past_ordered}
use Rattle.wb_model.proofs.KeptPasts.{below_filtered}
use Rattle.wb_model.proofs.LegalPasts.{live_up}
use Rattle.wb_model.proofs.Leaving.{truth}
use Rattle.wb_model.proofs.PartLaw.{others_turn, own_turn}
use Rattle.wb_model.proofs.Receipts.{idle_unless}
use Rattle.wb_model.proofs.TurnLaw.{event, event_law, turn_tables}
use Rattle.wb_model.proofs.ChangesKept.{changed_readable, purged_readable, turn_readable}

-- ---- a past

most_live : (past : Past Opened) (time : ℕ) → AtMost (last past) (live_reports past time)
most_live past time = below_filtered (is_live (registry past).settings time) past (last past) (numbers past) (numbers_below past)

unsealed : (past : Past Opened) (time n : ℕ) → is_there n (live_reports past time) ≡ false → cond (is_there n (live_reports past time)) (sealed past n) None ≡ None
unsealed past time n e = ap (λ b. cond b (sealed past n) None) e

-- what is held is so at each later time
later_readable : (t : ℕ) (past : Past Opened) (time : ℕ) → now past ≤ time → AreReadable t (held past) → AreReadable t (tables past time)
later_readable t past time le is = subst (AreReadable t) (held_tables past time le) (purged_readable t time (held past) is)

request_readable : (t : ℕ) (past : Past Opened) (f : Frame) → fits_command f.asked.command ≡ true → tenant_of f.asked.command ≡ t → AreReadable t (held past) →
    AreReadable t (tables (Turn (event f (what_at t past f)) past) (at_frame past f).time)
request_readable t past f fits own is =
    subst (AreReadable t) (sym (turn_tables t past f))
    (turn_readable t (tables past (at_frame past f).time) (at_frame past f) f.asked own fits (past_ordered past) (live_up past (at_frame past f).time) (most_live past (at_frame past f).time) (unsealed past (at_frame past f).time)
    (later_readable t past (at_frame past f).time (omega arith) is))

turned_readable : (t : ℕ) (past : Past Opened) (e : Event) → IsByVerdict t past e e.what → IsRanged t past e.what → AreReadable t (held past) → AreReadable t (held (Turn e past))
turned_readable t past e made ranged is = by e.what made ranged
  where
    later : AreReadable t (tables past (now (Turn e past)))
    later = later_readable t past (now (Turn e past)) (omega arith) is

    by : (w : What) → IsByVerdict t past e w → IsRanged t past w → AreReadable t (held (Turn (record { moment = e.moment; words = e.words; what = w }) past))
    by Lost h r = is
    by Idle h r =
        subst (AreReadable t) (sym (event_law past (record { moment = e.moment; words = e.words; what = Idle }) tt))
        (changed_readable t (now (Turn e past)) (tables past (now (Turn e past))) Nothing None (past_ordered past) (most_live past (now (Turn e past))) (unsealed past (now (Turn e past))) tt later)
    by (Gap u) h r =
        subst (AreReadable t) (sym (event_law past (record { moment = e.moment; words = e.words; what = Gap u }) tt))
        (changed_readable t (now (Turn e past)) (tables past (now (Turn e past))) Draws None (past_ordered past) (most_live past (now (Turn e past))) (unsealed past (now (Turn e past))) r later)
    by (Did asked who) h r =
        let f : Frame = record { moment = e.moment; words = e.words; asked = asked } in
        subst (λ w. AreReadable t (tables (Turn (record { moment = e.moment; words = e.words; what = w }) past) (at_frame past f).time)) h.1 (request_readable t past f h.0 r is)

pub held_readable : (t : ℕ) (past : Past Opened) → OpensReadable t past → AreByVerdicts t past → AreRanged t past → AreReadable t (held past)
held_readable t (Opening o) opens made ranged = opens
held_readable t (Turn e past) opens made ranged = turned_readable t past e made.0 ranged.0 (held_readable t past opens made.1 ranged.1)

-- and so is what is left, without the sessions
pub left_readable : (t : ℕ) (x : Tables) → AreReadable t x → AreReadable t (without_sessions x)
left_readable t x is = record { registry = is.registry; last = is.last; cases = is.cases; sessions = refl }

-- ---- scripts

-- a request's event is of the request itself, and no draw for no report
abbrev IsDone : Asked → What → Type 0
IsDone a (Did asked by) = asked ≡ a
IsDone a (Gap u) = ⊥
IsDone a Idle = Unit {0}
IsDone a Lost = Unit {0}

done_did : (t : ℕ) (on : Target) (a : Asked) → IsDone a (did t on a)
done_did t (Nobody x) a = tt
done_did t (Alone who) a = refl
done_did t (On who c) a = refl

done_what : (t : ℕ) (v : Verdict) (on : Target) (a : Asked) → IsDone a (what_by v t on a)
done_what t (Refused x) on a = tt
done_what t (Accepted ch answer) on a = by (is_read a.command)
  where
    by : (b : Bool) → IsDone a (cond b Idle (did t on a))
    by true = tt
    by false = done_did t on a

done_ranged : (t : ℕ) (past : Past Opened) (a : Asked) (w : What) → tenant_of a.command ≡ t → IsDone a w → IsRanged t past w
done_ranged t past a (Did asked by) own is = subst (λ (x : Asked). tenant_of x.command ≡ t) (sym is) own
done_ranged t past a (Gap u) own is = absurd is
done_ranged t past a Idle own is = tt
done_ranged t past a Lost own is = tt

ranged_turn : (t : ℕ) (past : Past AllOpened) (f : Frame) → AreRanged t (part t past) → AreRanged t (part t (with_turn past f))
ranged_turn t past f before = by (decide t (tenant_at f)) (truth (has_tenant past (tenant_at f)))
  where
    seeing : (w : What) → (seen t (what_in past f)) ≡ w → IsRanged t (part t past) w → AreRanged t (part t (with_turn past f))
    seeing w e h = (subst (IsRanged t (part t past)) (sym e) h, before)

    by : (t ≡ tenant_at f) ⊎ (t ≢ tenant_at f) → (has_tenant past (tenant_at f) ≡ true) ⊎ (has_tenant past (tenant_at f) ≡ false) → AreRanged t (part t (with_turn past f))
    by (inr away) has = seeing Idle (others_turn past f t away) tt
    by (inl e) (inr has) = seeing Idle (idle_unless t (has_tenant past (tenant_at f)) (what_at (tenant_at f) (part (tenant_at f) past) f) has) tt
    by (inl e) (inl has) = seeing (what_at t (part t past) f) (ap (λ v. seen v (what_in past f)) e ∙ (own_turn past f has ∙ ap (λ v. what_at v (part v past) f) (sym e)))
        (done_ranged t (part t past) f.asked (what_at t (part t past) f) (sym e) (done_what t (verdict_at (part t past) f) (target_at (part t past) f) f.asked))

ranged_asked : (t : ℕ) (past : Past AllOpened) (f : Frame) (loss : Loss) → AreRanged t (part t past) → AreRanged t (part t (play_asked past f loss).past)
ranged_asked t past f NotLost before = ranged_turn t past f before
ranged_asked t past f ByKeeper before = (tt, before)
ranged_asked t past f ByMemory before = (tt, before)
ranged_asked t past f (Unread close) before = before

ranged_place : (t : ℕ) (past : Past AllOpened) (p : Place) → AreRanged t (part t past) → AreRanged t (part t (play past p).past)
ranged_place t past p before = by p.reading
  where
    by : (reading : Reading) → AreRanged t (part t (play_by past p reading).past)
    by (Asks asked) = ranged_asked t past (frame_of p asked) p.loss before
    by (Refuses fault close) = before

-- a script makes such a past from such a past
pub ranged_script : (t : ℕ) (past : Past AllOpened) (places : List Place) → AreRanged t (part t past) → AreRanged t (part t (past_after past places))
ranged_script t past [] before = before
ranged_script t past (p ∷ ps) before = ranged_script t (play past p).past ps (ranged_place t past p before)

-- a place at a moment that a request may have leaves the time at such
timely_asked : (past : Past AllOpened) (f : Frame) (loss : Loss) → f.moment ≤ 99_999_999_999 → time past ≤ 99_999_999_999 → time (play_asked past f loss).past ≤ 99_999_999_999
timely_asked past f NotLost at before = omega arith
timely_asked past f ByKeeper at before = omega arith
timely_asked past f ByMemory at before = omega arith
timely_asked past f (Unread close) at before = before

timely_place : (past : Past AllOpened) (p : Place) → p.moment ≤ 99_999_999_999 → time past ≤ 99_999_999_999 → time (play past p).past ≤ 99_999_999_999
timely_place past p at before = by p.reading
  where
    by : (reading : Reading) → time (play_by past p reading).past ≤ 99_999_999_999
    by (Asks asked) = timely_asked past (frame_of p asked) p.loss at before
    by (Refuses fault close) = before

-- and so does a script
pub timely_script : (past : Past AllOpened) (places : List Place) → AreTimely places → time past ≤ 99_999_999_999 → time (past_after past places) ≤ 99_999_999_999
timely_script past [] timely before = before
timely_script past (p ∷ ps) timely before = timely_script (play past p).past ps timely.1 (timely_place past p timely.0 before)

opened_asked : (t : ℕ) (past : Past AllOpened) (f : Frame) (loss : Loss) → OpensReadable t (part t past) → OpensReadable t (part t (play_asked past f loss).past)
opened_asked t past f NotLost opens = opens
opened_asked t past f ByKeeper opens = opens
opened_asked t past f ByMemory opens = opens
opened_asked t past f (Unread close) opens = opens

opened_place : (t : ℕ) (past : Past AllOpened) (p : Place) → OpensReadable t (part t past) → OpensReadable t (part t (play past p).past)
opened_place t past p opens = by p.reading
  where
    by : (reading : Reading) → OpensReadable t (part t (play_by past p reading).past)
    by (Asks asked) = opened_asked t past (frame_of p asked) p.loss opens
    by (Refuses fault close) = opens

-- and its opening is the same
pub opened_script : (t : ℕ) (past : Past AllOpened) (places : List Place) → OpensReadable t (part t past) → OpensReadable t (part t (past_after past places))
opened_script t past [] opens = opens
opened_script t past (p ∷ ps) opens = opened_script t (play past p).past ps (opened_place t past p opens)
