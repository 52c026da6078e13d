-- A report that is not live stays so, and once it is purged replies and hosts are those of the script in which its submission only drew a number.
use Rattle.std.proofs.Common.{zero, suc, ◌≡◌, ℕ, ◌≤◌, ◌<◌, Bool, true, false, cond, not, List, [], ◌∷◌, Some, refl, sym, ap, ◌∙◌, arith}
use Rattle.std.specs.Prelude.{map, max, ◌&&◌, ◌||◌}
use Rattle.wb_model.specs.declared.event.Event.{Event}
use Rattle.wb_model.specs.declared.event.What.{What}
use Rattle.wb_model.specs.declared.event.What.TheVariants.{Idle, Lost}
use Rattle.wb_model.specs.Tables.{is_there}
use Rattle.wb_model.specs.Requests.{Frame}
use Rattle.wb_model.specs.Host.{Tables}
use Rattle.wb_model.specs.Tenants.{tenant_at}
use Rattle.wb_model.specs.Past.{Past, Turn, now, at_of, registry, last, lives_at, trail, has_report, live, tables, is_lost, held}
use Rattle.wb_model.specs.PastTurns.{what_at, verdict_at, target_at}
use Rattle.wb_model.specs.Opened.{Opened}
use Rattle.wb_model.specs.Pasts.{AllOpened, seen, part, has_tenant, what_in, time, standing_hosts, with_turn}
use Rattle.wb_model.specs.Readings.{Reading, Asks, Refuses}
use Rattle.wb_model.specs.Scripts.{Loss, NotLost, ByKeeper, ByMemory, Unread, Place, frame_of, play_asked, play_by, play, script_replies, past_after}
use Rattle.wb_model.specs.ScriptsAlike.{is_made}
use Rattle.wb_model.specs.Absence.{first_last, all_gapped, AreApart, AllDrawAnother, DrawOthersAfter, Stands, replies, past_with, without_place, with_gap, BeginsAt, lives_here, purges_here, is_purged, replies_purged, is_purged_after, replies_after, begins_here, holds, NoneIsLost, HoldsLive}
use Rattle.wb_model.proofs.PastLaw.{both_hold, live_earlier}
use Rattle.wb_model.proofs.RecentSessions.{and_left, and_right, live_falls}
use Rattle.wb_model.proofs.PartLaw.{part_now}
use Rattle.wb_model.proofs.Gapless.{not_live, with_what}
use Rattle.wb_model.proofs.AbsentPast.{stands_gapped, held_made, same_standing, seen_made}
use Rattle.wb_model.proofs.HeldTables.{not_lost}
use Rattle.wb_model.proofs.AbsentTurns.{event_in}
use Rattle.wb_model.proofs.Receipts.{receipts_place}
use Rattle.wb_model.proofs.AbsentScripts.{Lacks, last_more, lacks_place, reply_place, submission_place, absent_pasts}

-- ---- one tenant

falls : (a b : Bool) → (b ≡ true → a ≡ true) → a ≡ false → b ≡ false
falls a true up e = absurd (let bad : true ≡ false = sym (up refl) ∙ e in grind (arith, bad))
falls a false up e = refl

later_dead : (past : Past Opened) (r m n : ℕ) → m ≤ n → live past r m ≡ false → live past r n ≡ false
later_dead past r m n le e = falls (live past r m) (live past r n) up e
  where
    up : live past r n ≡ true → live past r m ≡ true
    up is = both_hold (has_report past r) (lives_at (registry past) m r (trail past r)) (and_left (has_report past r) (lives_at (registry past) n r (trail past r)) is)
        (live_earlier (registry past).settings m n (record { number = r; trail = trail past r }) le (and_right (has_report past r) (lives_at (registry past) n r (trail past r)) is))

-- what is not live stays so
pub stays_dead : (past : Past Opened) (e : Event) (r time : ℕ) → r ≤ last past → live past r (at_of past e).time ≡ false → (at_of past e).time ≤ time → live (Turn e past) r time ≡ false
stays_dead past e r time le dead later = falls (live past r (at_of past e).time) (live (Turn e past) r time) (live_falls past e time r later le) dead

-- ---- purged

pub record Purged (t r : ℕ) (past : Past AllOpened) : Type 0 where
  pub drawn : r ≤ last (part t past)
  pub dead : live (part t past) r (now (part t past)) ≡ false
  pub unheld : is_there r (held (part t past)).plain.cases ≡ false

unheld_turn : (past : Past Opened) (e : Event) (r : ℕ) (b : Bool) → is_lost e.what ≡ b → live (Turn e past) r (now (Turn e past)) ≡ false → (b ≡ true → is_there r (held past).plain.cases ≡ false) → is_there r (held (Turn e past)).plain.cases ≡ false
unheld_turn past e r true is dead before = ap (λ b. is_there r (cond b (held past) (tables (Turn e past) (now (Turn e past)))).plain.cases) is ∙ before refl
unheld_turn past e r false is dead before = ap (λ (t : Tables). is_there r t.plain.cases) (held_made past e is) ∙ not_live r (now (Turn e past)) (Turn e past) dead

purged_turn : (t r : ℕ) (past : Past AllOpened) (e : Event) → r ≤ last (part t past) → live (part t past) r (max (now (part t past)) e.moment) ≡ false → (is_lost (seen t e.what) ≡ true → is_there r (held (part t past)).plain.cases ≡ false) → Purged t r (Turn e past)
purged_turn t r past e drawn gone held_before =
    let f : Event = with_what e (seen t e.what) in
    let dead : live (Turn f (part t past)) r (now (Turn f (part t past))) ≡ false = stays_dead (part t past) f r (now (Turn f (part t past))) drawn gone (omega arith) in
    record { drawn = last_more (part t past) f r drawn; dead = dead; unheld = unheld_turn (part t past) f r (is_lost f.what) refl dead held_before }

later_gone : (t r m : ℕ) (past : Past AllOpened) → Purged t r past → live (part t past) r (max (now (part t past)) m) ≡ false
later_gone t r m past p = later_dead (part t past) r (now (part t past)) (max (now (part t past)) m) (omega arith) p.dead

purged_asked : (t r : ℕ) (past : Past AllOpened) (f : Frame) (loss : Loss) → Purged t r past → Purged t r (play_asked past f loss).past
purged_asked t r past f NotLost p = purged_turn t r past (event_in past f) p.drawn (later_gone t r f.moment past p) (λ is. p.unheld)
purged_asked t r past f ByKeeper p = purged_turn t r past (record { moment = f.moment; words = f.words; what = Lost }) p.drawn (later_gone t r f.moment past p) (λ is. p.unheld)
purged_asked t r past f ByMemory p = purged_turn t r past (record { moment = f.moment; words = f.words; what = Lost }) p.drawn (later_gone t r f.moment past p) (λ is. p.unheld)
purged_asked t r past f (Unread close) p = p

pub purged_place : (t r : ℕ) (past : Past AllOpened) (p : Place) → Purged t r past → Purged t r (play past p).past
purged_place t r past p g = by p.reading
  where
    by : (reading : Reading) → Purged t r (play_by past p reading).past
    by (Asks asked) = purged_asked t r past (frame_of p asked) p.loss g
    by (Refuses fault close) = g

-- a purged report is not live at a later place
pub gone_here : (t r : ℕ) (past : Past AllOpened) (p : Place) → Purged t r past → lives_here t r past p ≡ false
gone_here t r past p g = ap (λ m. live (part t past) r (max m p.moment)) (sym (part_now t past)) ∙ later_gone t r p.moment past g

not_true : (b : Bool) → not b ≡ true → b ≡ false
not_true true e = absurd (grind (arith, e))
not_true false e = refl

what_made : (past : Past AllOpened) (f : Frame) → is_lost (what_in past f) ≡ false
what_made past f = by (has_tenant past (tenant_at f))
  where
    by : (b : Bool) → is_lost (cond b (what_at (tenant_at f) (part (tenant_at f) past) f) Idle) ≡ false
    by true = not_lost (verdict_at (part (tenant_at f) past) f) (tenant_at f) (target_at (part (tenant_at f) past) f) f.asked
    by false = refl

-- after a request's turn, absence on one past
pub turn_gapped : (t r : ℕ) (past : Past AllOpened) (f : Frame) → first_last (part t past) < r → live (part t (with_turn past f)) r (time (with_turn past f)) ≡ false → standing_hosts (all_gapped t r (with_turn past f)) ≡ standing_hosts (with_turn past f)
turn_gapped t r past f lt dead = stands_gapped t r (event_in past f) past (what_made past f) lt dead

made_false : (t : ℕ) (w : What) (P : Type 0) → is_lost w ≡ false → is_lost (seen t w) ≡ true → P
made_false t w P e is = absurd (let bad : false ≡ true = sym (seen_made t w e) ∙ is in grind (arith, bad))

-- the turn that purges a report
pub purging_place : (t r : ℕ) (past : Past AllOpened) (p : Place) (reading : Reading) → r ≤ last (part t past) → purges_here t r past p reading ≡ true → Purged t r (play_by past p reading).past
purging_place t r past p (Refuses fault close) le is = absurd (grind (arith, is))
purging_place t r past p (Asks asked) le is = by p.loss is
  where
    by : (loss : Loss) → (is_made loss && not (lives_here t r past p)) ≡ true → Purged t r (play_asked past (frame_of p asked) loss).past
    by NotLost k = purged_turn t r past (event_in past (frame_of p asked)) le (ap (λ m. live (part t past) r (max m p.moment)) (part_now t past) ∙ not_true (lives_here t r past p) k) (made_false t (what_in past (frame_of p asked)) _ (what_made past (frame_of p asked)))
    by ByKeeper k = absurd (grind (arith, k))
    by ByMemory k = absurd (grind (arith, k))
    by (Unread close) k = absurd (grind (arith, k))

purges_gone : (t r : ℕ) (past : Past AllOpened) (p : Place) (reading : Reading) → purges_here t r past p reading ≡ true → lives_here t r past p ≡ false
purges_gone t r past p (Refuses fault close) is = absurd (grind (arith, is))
purges_gone t r past p (Asks asked) is = not_true (lives_here t r past p) (grind (arith, is))

-- ---- scripts

-- all later replies
same_answers : (t r : ℕ) (past other : Past AllOpened) (ps : List Place) → AllDrawAnother t r past ps → Lacks t r past other → Purged t r past → map Some (script_replies past ps) ≡ replies other (map Stands ps)
same_answers t r past other [] a l g = refl
same_answers t r past other (p ∷ ps) a l g =
    ap (λ x. Some x ∷ map Some (script_replies (play past p).past ps)) (sym (reply_place t r past other p l.facts (gone_here t r past p g)))
    ∙ ap (λ xs. Some (play other p).reply ∷ xs) (same_answers t r (play past p).past (play other p).past ps a.1 (lacks_place t r past other p a.0 l) (purged_place t r past p g))

pub purged_same : (t r : ℕ) (past other : Past AllOpened) (ps : List Place) → AllDrawAnother t r past ps → Lacks t r past other → replies_purged t r past ps (map Some (script_replies past ps)) ≡ replies_purged t r past ps (replies other (map Stands ps))
purged_same t r past other [] a l = refl
purged_same t r past other (p ∷ ps) a l = by (purges_here t r past p p.reading) refl (purged_same t r (play past p).past (play other p).past ps a.1 (lacks_place t r past other p a.0 l))
  where
    by : (b : Bool) → purges_here t r past p p.reading ≡ b →
        replies_purged t r (play past p).past ps (map Some (script_replies (play past p).past ps)) ≡ replies_purged t r (play past p).past ps (replies (play other p).past (map Stands ps)) →
        cond b (Some (play past p).reply ∷ map Some (script_replies (play past p).past ps)) (replies_purged t r (play past p).past ps (map Some (script_replies (play past p).past ps)))
        ≡ cond b (Some (play other p).reply ∷ replies (play other p).past (map Stands ps)) (replies_purged t r (play past p).past ps (replies (play other p).past (map Stands ps)))
    by true is ih =
        ap (λ x. Some x ∷ map Some (script_replies (play past p).past ps)) (sym (reply_place t r past other p l.facts (purges_gone t r past p p.reading is)))
        ∙ ap (λ xs. Some (play other p).reply ∷ xs) (same_answers t r (play past p).past (play other p).past ps a.1 (lacks_place t r past other p a.0 l) (purging_place t r past p p.reading l.drawn is))
    by false is ih = ih

still_purged : (t r : ℕ) (past : Past AllOpened) (ps : List Place) → Purged t r past → Purged t r (past_after past ps)
still_purged t r past [] g = g
still_purged t r past (p ∷ ps) g = still_purged t r (play past p).past ps (purged_place t r past p g)

pub purged_end : (t r : ℕ) (past other : Past AllOpened) (ps : List Place) → AllDrawAnother t r past ps → Lacks t r past other → is_purged t r past ps ≡ true → Purged t r (past_after past ps)
purged_end t r past other [] a l is = absurd (grind (arith, is))
purged_end t r past other (p ∷ ps) a l is = by (purges_here t r past p p.reading) refl is (λ k. purged_end t r (play past p).past (play other p).past ps a.1 (lacks_place t r past other p a.0 l) k)
  where
    by : (b : Bool) → purges_here t r past p p.reading ≡ b → (b || is_purged t r (play past p).past ps) ≡ true → (is_purged t r (play past p).past ps ≡ true → Purged t r (past_after (play past p).past ps)) → Purged t r (past_after (play past p).past ps)
    by true here k ih = still_purged t r (play past p).past ps (purging_place t r past p p.reading l.drawn here)
    by false here k ih = ih k

-- from the place on at which it is purged, the replies are those of the script in which its submission only drew a number
pub purged_replies : (i t r : ℕ) (past : Past AllOpened) (ps : List Place) → AreApart t past → BeginsAt i t r past ps → DrawOthersAfter i t r past ps → replies_after i t r past ps (map Some (script_replies past ps)) ≡ replies_after i t r past ps (replies past (without_place i t ps))
purged_replies i t r past [] b o d = absurd o
purged_replies zero t r past (p ∷ ps) b o d = purged_same t r (play past p).past (with_gap past p.moment p.words t) ps d (submission_place t r past p p.reading b o)
purged_replies (suc i) t r past (p ∷ ps) b o d = purged_replies i t r (play past p).past ps (receipts_place t past p b) o d

purged_after : (i t r : ℕ) (past : Past AllOpened) (ps : List Place) → AreApart t past → BeginsAt i t r past ps → DrawOthersAfter i t r past ps → is_purged_after i t r past ps ≡ true → Purged t r (past_after past ps)
purged_after i t r past [] b o d is = absurd o
purged_after zero t r past (p ∷ ps) b o d is = purged_end t r (play past p).past (with_gap past p.moment p.words t) ps d (submission_place t r past p p.reading b o) is
purged_after (suc i) t r past (p ∷ ps) b o d is = purged_after i t r (play past p).past ps (receipts_place t past p b) o d is

-- where the hosts at the end do not hold it, they are the same
pub gone_hosts : (i t r : ℕ) (past : Past AllOpened) (ps : List Place) → AreApart t past → BeginsAt i t r past ps → DrawOthersAfter i t r past ps → holds t r (past_after past ps) ≡ false → standing_hosts (past_with past (without_place i t ps)) ≡ standing_hosts (past_after past ps)
gone_hosts i t r past ps b o d none =
    let l : Lacks t r (past_after past ps) (past_with past (without_place i t ps)) = absent_pasts i t r past ps b o d in
    same_standing t r (past_after past ps) (past_with past (without_place i t ps)) l.facts (l.held_same none)

pub purged_unheld : (i t r : ℕ) (past : Past AllOpened) (ps : List Place) → AreApart t past → BeginsAt i t r past ps → DrawOthersAfter i t r past ps → is_purged_after i t r past ps ≡ true → holds t r (past_after past ps) ≡ false
purged_unheld i t r past ps b o d is = (purged_after i t r past ps b o d is).unheld

-- ---- where nothing is lost

-- what is not live is not held
abbrev Follows : ℕ → ℕ → Past AllOpened → Type 0
Follows t r past = live (part t past) r (now (part t past)) ≡ false → holds t r past ≡ false

follows_turn : (t r : ℕ) (past : Past AllOpened) (f : Frame) → Follows t r (with_turn past f)
follows_turn t r past f dead =
    let e : Event = with_what (event_in past f) (seen t (what_in past f)) in
    ap (λ (x : Tables). is_there r x.plain.cases) (held_made (part t past) e (seen_made t (what_in past f) (what_made past f))) ∙ not_live r (now (part t (with_turn past f))) (part t (with_turn past f)) dead

follows_asked : (t r : ℕ) (past : Past AllOpened) (f : Frame) (loss : Loss) → is_made loss ≡ true → Follows t r (play_asked past f loss).past
follows_asked t r past f NotLost made = follows_turn t r past f
follows_asked t r past f ByKeeper made = absurd (grind (arith, made))
follows_asked t r past f ByMemory made = absurd (grind (arith, made))
follows_asked t r past f (Unread close) made = absurd (grind (arith, made))

follows_place : (t r : ℕ) (past : Past AllOpened) (p : Place) (reading : Reading) → is_made p.loss ≡ true → Follows t r past → Follows t r (play_by past p reading).past
follows_place t r past p (Asks asked) made before = follows_asked t r past (frame_of p asked) p.loss made
follows_place t r past p (Refuses fault close) made before = before

follow_all : (t r : ℕ) (past : Past AllOpened) (ps : List Place) → NoneIsLost ps → Follows t r past → Follows t r (past_after past ps)
follow_all t r past [] made is = is
follow_all t r past (p ∷ ps) made is = follow_all t r (play past p).past ps made.1 (follows_place t r past p p.reading made.0 is)

begun_follows : (t r : ℕ) (past : Past AllOpened) (p : Place) (reading : Reading) → begins_here t r past p reading ≡ true → is_made p.loss ≡ true → Follows t r (play_by past p reading).past
begun_follows t r past p (Asks asked) here made = follows_asked t r past (frame_of p asked) p.loss made
begun_follows t r past p (Refuses fault close) here made = absurd (grind (arith, here))

-- a report that is submitted at place i and is not live at the end is not held there
pub gone_unheld : (i t r : ℕ) (past : Past AllOpened) (ps : List Place) → BeginsAt i t r past ps → NoneIsLost ps → live (part t (past_after past ps)) r (time (past_after past ps)) ≡ false → holds t r (past_after past ps) ≡ false
gone_unheld i t r past ps o made dead = end i past ps o made (ap (live (part t (past_after past ps)) r) (part_now t (past_after past ps)) ∙ dead)
  where
    end : (k : ℕ) (before : Past AllOpened) (qs : List Place) → BeginsAt k t r before qs → NoneIsLost qs → Follows t r (past_after before qs)
    end k before [] b m = absurd b
    end zero before (q ∷ qs) b m = follow_all t r (play before q).past qs m.1 (begun_follows t r before q q.reading b m.0)
    end (suc k) before (q ∷ qs) b m = end k (play before q).past qs b m.1

-- hosts that hold it only while it is live do so at the end
pub gone_held : (t r : ℕ) (past : Past AllOpened) (ps : List Place) → HoldsLive t r past → NoneIsLost ps → HoldsLive t r (past_after past ps)
gone_held t r past ps held made dead =
    follow_all t r past ps made (λ k. held (ap (live (part t past) r) (sym (part_now t past)) ∙ k))
    (ap (live (part t (past_after past ps)) r) (part_now t (past_after past ps)) ∙ dead)
