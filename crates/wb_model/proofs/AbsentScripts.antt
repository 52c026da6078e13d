-- Absence over scripts: once a report is not live, replies and hosts are those of the script in which its submission only drew a number.
use Rattle.std.proofs.Common.{zero, suc, ◌≡◌, ◌≢◌, ◌⊎◌, inl, inr, ℕ, ◌+◌, ◌≤◌, Bool, true, false, cond, eqb, List, [], ◌∷◌, Some, None, refl, sym, ap, ◌∙◌, subst, arith}
use Rattle.std.specs.Prelude.{map, max, ◌&&◌}
use Rattle.std.proofs.lemmas.Bool.Decides.{nat_tests}
use Rattle.wb_model.specs.declared.body.Told.{Told}
use Rattle.wb_model.specs.declared.event.Event.{Event}
use Rattle.wb_model.specs.declared.event.What.{What}
use Rattle.wb_model.specs.declared.event.What.TheVariants.{Did, Gap, Idle, Lost}
use Rattle.wb_model.specs.Tables.{Registry, is_there}
use Rattle.wb_model.specs.Requests.{Frame}
use Rattle.wb_model.specs.Changes.{TurnContext, Change, Nothing, Draws, Begins, Notes, Deletes, LogsIn, LogsOut, Configures}
use Rattle.wb_model.specs.Host.{Tables, reply_by, ruling}
use Rattle.wb_model.specs.Tenants.{tenant_at, without_tenant}
use Rattle.wb_model.specs.Past.{Past, Turn, now, at_of, alone_in, registry, last, drew, live, plain, tables, is_lost, held}
use Rattle.wb_model.specs.PastTurns.{at_frame, reply_at}
use Rattle.wb_model.specs.Opened.{Opened}
use Rattle.wb_model.specs.Pasts.{AllOpened, seen, part, has_tenant, time, standing_hosts, reply_in, what_in, with_turn, with_loss}
use Rattle.wb_model.specs.Readings.{Reading, Asks, Refuses}
use Rattle.wb_model.specs.Scripts.{Loss, NotLost, ByKeeper, ByMemory, Unread, Place, Reply, frame_of, replying, play_asked, play_by, play, script_replies, past_after}
use Rattle.wb_model.specs.ScriptsAlike.{is_made}
use Rattle.wb_model.specs.Absence.{without, AreApart, DrawsAnother, AllDrawAnother, DrawOthersAfter, is_beginning, begins_as, Stands, with_gap, replies, past_with, without_place, begins_here, BeginsAt, lives_here, later_replies, replies_without}
use Rattle.wb_model.proofs.Found.{decide, same_number, other_number}
use Rattle.wb_model.proofs.Gapless.{Gapless, gapless_start, gapless_tables, gapless_same, without_none, with_what}
use Rattle.wb_model.proofs.GapSteps.{stays, draws}
use Rattle.wb_model.proofs.PartLaw.{part_now, others_turn}
use Rattle.wb_model.proofs.AbsentPast.{AllGapless, SeenStep, all_turn, held_made, lost_step, same_standing}
use Rattle.wb_model.proofs.Receipts.{Receipts, receipts_lost, receipts_seen, receipts_place}
use Rattle.wb_model.proofs.AbsentTurns.{DrawsOther, event_in, same_frame, same_has, rest_seen, own_seen}

-- ---- hosts

-- the pasts of two hosts, of which the second lacks report r of tenant t
pub record Lacks (t r : ℕ) (past other : Past AllOpened) : Type 0 where
  pub facts : AllGapless t r past other
  pub drawn : r ≤ last (part t past)
  pub receipts : Receipts (part t past)
  pub held_same : is_there r (held (part t past)).plain.cases ≡ false → held (part t other) ≡ held (part t past)
  pub held_without : held (part t other) ≡ without r (held (part t past))

pub last_more : (past : Past Opened) (e : Event) (r : ℕ) → r ≤ last past → r ≤ last (Turn e past)
last_more past e r le = by (drew past e)
  where
    by : (b : Bool) → r ≤ cond b (last past + 1) (last past)
    by true = omega arith
    by false = le

-- what is held after the same step
held_turn : (r : ℕ) (past other : Past Opened) (e f : Event) (b : Bool) → is_lost e.what ≡ b → is_lost f.what ≡ is_lost e.what → Gapless r (Turn e past) (Turn f other) →
    (b ≡ true → is_there r (held past).plain.cases ≡ false → held other ≡ held past) → is_there r (held (Turn e past)).plain.cases ≡ false → held (Turn f other) ≡ held (Turn e past)
held_turn r past other e f true is same g before none =
    let was : held (Turn e past) ≡ held past = ap (λ b. cond b (held past) (tables (Turn e past) (now (Turn e past)))) is in
    let now_is : held (Turn f other) ≡ held other = ap (λ b. cond b (held other) (tables (Turn f other) (now (Turn f other)))) (same ∙ is) in
    now_is ∙ (before refl (ap (λ (t : Tables). is_there r t.plain.cases) (sym was) ∙ none) ∙ sym was)
held_turn r past other e f false is same g before none =
    let was : held (Turn e past) ≡ tables (Turn e past) (now (Turn e past)) = held_made past e is in
    held_made other f (same ∙ is)
    ∙ (ap (tables (Turn f other)) g.moments
    ∙ (gapless_tables r (now (Turn e past)) (Turn e past) (Turn f other) (omega arith) g
    ∙ (without_none r (now (Turn e past)) (Turn e past) (omega arith) (ap (λ (t : Tables). is_there r t.plain.cases) (sym was) ∙ none) ∙ sym was)))

-- what is held after the same step is what the first holds, without r
held_apart : (r : ℕ) (past other : Past Opened) (e f : Event) (b : Bool) → is_lost e.what ≡ b → is_lost f.what ≡ is_lost e.what → Gapless r (Turn e past) (Turn f other) →
    (b ≡ true → held other ≡ without r (held past)) → held (Turn f other) ≡ without r (held (Turn e past))
held_apart r past other e f true is same g before =
    let was : held (Turn e past) ≡ held past = ap (λ b. cond b (held past) (tables (Turn e past) (now (Turn e past)))) is in
    let now_is : held (Turn f other) ≡ held other = ap (λ b. cond b (held other) (tables (Turn f other) (now (Turn f other)))) (same ∙ is) in
    now_is ∙ (before refl ∙ ap (without r) (sym was))
held_apart r past other e f false is same g before =
    held_made other f (same ∙ is)
    ∙ (ap (tables (Turn f other)) g.moments
    ∙ (gapless_tables r (now (Turn e past)) (Turn e past) (Turn f other) (omega arith) g ∙ ap (without r) (sym (held_made past e is))))

lacks_turn : (t r : ℕ) (past other : Past AllOpened) (e : Event) (v : What) → Lacks t r past other → Receipts (part t (Turn e past)) → SeenStep t r past e v → ((u : ℕ) → u ≢ t → seen u v ≡ seen u e.what) → Lacks t r (Turn e past) (Turn (with_what e v) other)
lacks_turn t r past other e v l receipts step same =
    let f : Event = with_what e (seen t e.what) in
    let g : AllGapless t r (Turn e past) (Turn (with_what e v) other) = all_turn t r past other e v l.facts step same in
    record {
      facts = g;
      drawn = last_more (part t past) f r l.drawn;
      receipts = receipts;
      held_same = held_turn r (part t past) (part t other) f (with_what e (seen t v)) (is_lost f.what) refl (lost_step r (last (part t past)) (at_of (part t past) f) (registry (part t past)) f.what (seen t v) step) g.own (λ is. l.held_same);
      held_without = held_apart r (part t past) (part t other) f (with_what e (seen t v)) (is_lost f.what) refl (lost_step r (last (part t past)) (at_of (part t past) f) (registry (part t past)) f.what (seen t v) step) g.own (λ is. l.held_without);
    }

lacks_request : (t r : ℕ) (past other : Past AllOpened) (f : Frame) → (t ≡ tenant_at f → DrawsOther r (part t past) f) → Lacks t r past other → Lacks t r (with_turn past f) (with_turn other f)
lacks_request t r past other f draws_other l = lacks_turn t r past other (event_in past f) (what_in other f) l (receipts_seen t past f l.receipts) (own_seen t r past other f l.facts l.drawn l.receipts draws_other) (λ u ne. rest_seen t r u past other f l.facts ne)

lacks_loss : (t r : ℕ) (past other : Past AllOpened) (f : Frame) → Lacks t r past other → Lacks t r (with_loss past f) (with_loss other f)
lacks_loss t r past other f l = lacks_turn t r past other (record { moment = f.moment; words = f.words; what = Lost }) Lost l (receipts_lost (part t past) f l.receipts) (stays refl refl refl) (λ u ne. refl)

lacks_asked : (t r : ℕ) (past other : Past AllOpened) (f : Frame) (loss : Loss) → (t ≡ tenant_at f → DrawsOther r (part t past) f) → Lacks t r past other → Lacks t r (play_asked past f loss).past (play_asked other f loss).past
lacks_asked t r past other f NotLost draws_other l = lacks_request t r past other f draws_other l
lacks_asked t r past other f ByKeeper draws_other l = lacks_loss t r past other f l
lacks_asked t r past other f ByMemory draws_other l = lacks_loss t r past other f l
lacks_asked t r past other f (Unread close) draws_other l = l

-- a place keeps it so
pub lacks_place : (t r : ℕ) (past other : Past AllOpened) (p : Place) → DrawsAnother t r past p p.reading → Lacks t r past other → Lacks t r (play past p).past (play other p).past
lacks_place t r past other p another l = by p.reading another
  where
    by : (reading : Reading) → DrawsAnother t r past p reading → Lacks t r (play_by past p reading).past (play_by other p reading).past
    by (Asks asked) draw = lacks_asked t r past other (frame_of p asked) p.loss (λ e is lives. draw is (sym e) (ap (λ m. live (part t past) r (max m p.moment)) (sym (part_now t past)) ∙ lives)) l
    by (Refuses fault close) draw = l

-- ---- replies

-- the reply is told by the tables
abbrev told_over : Tables → TurnContext → Frame → Told
told_over t at f = reply_by (ruling t at f.asked) t.sealed

reply_gapless : (r : ℕ) (past other : Past Opened) (f : Frame) → Gapless r past other → live past r (at_frame past f).time ≡ false → reply_at other f ≡ reply_at past f
reply_gapless r past other f g dead =
    ap (λ at. told_over (tables other at.time) at f) (same_frame r past other f g) ∙ ap (λ t. told_over t (at_frame past f) f) (gapless_same r (at_frame past f).time past other (omega arith) g dead)

reply_lacks : (t r : ℕ) (past other : Past AllOpened) (f : Frame) → AllGapless t r past other → live (part t past) r (max (time past) f.moment) ≡ false → reply_in other f ≡ reply_in past f
reply_lacks t r past other f g dead =
    let n : ℕ = tenant_at f in
    ap (λ b. cond b (reply_at (part n other) f) (without_tenant n)) (same_has t r n past other g) ∙ ap (λ x. cond (has_tenant past n) x (without_tenant n)) (by n (decide n t))
  where
    by : (n : ℕ) → (n ≡ t) ⊎ (n ≢ t) → reply_at (part n other) f ≡ reply_at (part n past) f
    by n (inl e) = subst (λ v. reply_at (part v other) f ≡ reply_at (part v past) f) (sym e) (reply_gapless r (part t past) (part t other) f g.own (ap (λ m. live (part t past) r (max m f.moment)) (part_now t past) ∙ dead))
    by n (inr ne) = ap (λ p. reply_at p f) (g.rest n ne)

reply_asked : (t r : ℕ) (past other : Past AllOpened) (f : Frame) (loss : Loss) → AllGapless t r past other → live (part t past) r (max (time past) f.moment) ≡ false → (play_asked other f loss).reply ≡ (play_asked past f loss).reply
reply_asked t r past other f NotLost g dead = ap (λ told. replying told f.asked.close) (reply_lacks t r past other f g dead)
reply_asked t r past other f ByKeeper g dead = refl
reply_asked t r past other f ByMemory g dead = refl
reply_asked t r past other f (Unread close) g dead = refl

-- at a place where r is not live the reply is the same
pub reply_place : (t r : ℕ) (past other : Past AllOpened) (p : Place) → AllGapless t r past other → lives_here t r past p ≡ false → (play other p).reply ≡ (play past p).reply
reply_place t r past other p g dead = by p.reading
  where
    by : (reading : Reading) → (play_by other p reading).reply ≡ (play_by past p reading).reply
    by (Asks asked) = reply_asked t r past other (frame_of p asked) p.loss g dead
    by (Refuses fault close) = refl

hide : (b : Bool) (x y : Reply) → (b ≡ false → y ≡ x) → cond b None (Some x) ≡ cond b None (Some y)
hide true x y e = refl
hide false x y e = ap Some (sym (e refl))

pub later_same : (t r : ℕ) (past other : Past AllOpened) (ps : List Place) → AllDrawAnother t r past ps → Lacks t r past other → later_replies t r past ps (map Some (script_replies past ps)) ≡ later_replies t r past ps (replies other (map Stands ps))
later_same t r past other [] a l = refl
later_same t r past other (p ∷ ps) a l =
    ap (λ x. x ∷ later_replies t r (play past p).past ps (map Some (script_replies (play past p).past ps))) (hide (lives_here t r past p) _ _ (reply_place t r past other p l.facts))
    ∙ ap (λ xs. cond (lives_here t r past p) None (Some (play other p).reply) ∷ xs) (later_same t r (play past p).past (play other p).past ps a.1 (lacks_place t r past other p a.0 l))

pub later_hosts : (t r : ℕ) (past other : Past AllOpened) (ps : List Place) → AllDrawAnother t r past ps → Lacks t r past other → Lacks t r (past_after past ps) (past_with other (map Stands ps))
later_hosts t r past other [] a l = l
later_hosts t r past other (p ∷ ps) a l = later_hosts t r (play past p).past (play other p).past ps a.1 (lacks_place t r past other p a.0 l)

-- ---- the submission

pub opened_tenant : (t : ℕ) (past : Past AllOpened) (f : Frame) (at : TurnContext) (g : Registry) (b : Bool) → (is_beginning (alone_in (seen t (what_in past f)) at g) && b) ≡ true → tenant_at f ≡ t
opened_tenant t past f at g b opens = by (decide t (tenant_at f))
  where
    by : (t ≡ tenant_at f) ⊎ (t ≢ tenant_at f) → tenant_at f ≡ t
    by (inl e) = sym e
    by (inr ne) = absurd (let bad : false ≡ true = ap (λ w. is_beginning (alone_in w at g) && b) (sym (others_turn past f t ne)) ∙ opens in grind (arith, bad))

opening_drew : (past : Past Opened) (e : Event) (r : ℕ) → begins_as r past e ≡ true → (last past + 1 ≡ r) × (drew past e ≡ true)
opening_drew past e r opens = by (Rattle.wb_model.specs.Past.alone_at past e) opens
  where
    by : (ch : Change) → (is_beginning ch && eqb (last past + 1) r) ≡ true → (last past + 1 ≡ r) × (Rattle.wb_model.specs.Host.is_draw ch ≡ true)
    by (Begins x) k = (grind (arith, nat_tests, k), refl)
    by Nothing k = absurd (grind (arith, k))
    by Draws k = absurd (grind (arith, k))
    by (Notes n x) k = absurd (grind (arith, k))
    by (Deletes n) k = absurd (grind (arith, k))
    by (LogsIn s) k = absurd (grind (arith, k))
    by (LogsOut turn who) k = absurd (grind (arith, k))
    by (Configures setting) k = absurd (grind (arith, k))

opening_made : (at : TurnContext) (g : Registry) (b : Bool) (w : What) → (is_beginning (alone_in w at g) && b) ≡ true → is_lost w ≡ false
opening_made at g b (Did a by) k = refl
opening_made at g b (Gap t) k = refl
opening_made at g b Idle k = refl
opening_made at g b Lost k = absurd (grind (arith, k))

submission_lacks : (t r : ℕ) (past : Past AllOpened) (f : Frame) → Receipts (part t past) → begins_as r (part t past) (with_what (event_in past f) (seen t (what_in past f))) ≡ true → Lacks t r (with_turn past f) (with_gap past f.moment f.words t)
submission_lacks t r past f apart opens =
    let e : Event = event_in past f in
    let w : Event = with_what e (seen t (what_in past f)) in
    let own : Past Opened = part t past in
    let n : ℕ = tenant_at f in
    let named : n ≡ t = opened_tenant t past f (at_of own w) (registry own) (eqb (last own + 1) r) opens in
    let drew_r = opening_drew own w r opens in
    let start : AllGapless t r past past = record { moments = refl; counts = refl; same_tenants = refl; own = gapless_start r own (omega (arith, drew_r.0)); rest = λ u ne. refl } in
    let gap : seen t (Gap t) ≡ Gap t = ap (λ b. cond b (Gap t) Idle) (same_number t t refl) in
    let step : SeenStep t r past e (Gap t) = draws t opens gap in
    let g : AllGapless t r (Turn e past) (Turn (with_what e (Gap t)) past) =
    all_turn t r past past e (Gap t) start step (λ u ne. ap (λ b. cond b (Gap t) Idle) (other_number t u (λ k. ne (sym k))) ∙ sym (others_turn past f u (λ k. ne (k ∙ named)))) in
    record {
      facts = g;
      receipts = receipts_seen t past f apart;
      drawn = (let last_is : last (Turn w own) ≡ last own + 1 = ap (λ b. cond b (last own + 1) (last own)) drew_r.1 in omega (arith, last_is, drew_r.0));
      held_same = held_turn r own own w (with_what e (seen t (Gap t))) false (opening_made (at_of own w) (registry own) (eqb (last own + 1) r) w.what opens)
          (lost_step r (last own) (at_of own w) (registry own) w.what (seen t (Gap t)) step) g.own (λ k. absurd (grind (arith, k)));
      held_without = held_apart r own own w (with_what e (seen t (Gap t))) false (opening_made (at_of own w) (registry own) (eqb (last own + 1) r) w.what opens)
          (lost_step r (last own) (at_of own w) (registry own) w.what (seen t (Gap t)) step) g.own (λ k. absurd (grind (arith, k)));
    }

pub submission_place : (t r : ℕ) (past : Past AllOpened) (p : Place) (reading : Reading) → Receipts (part t past) → begins_here t r past p reading ≡ true → Lacks t r (play_by past p reading).past (with_gap past p.moment p.words t)
submission_place t r past p (Refuses fault close) apart opens = absurd (grind (arith, opens))
submission_place t r past p (Asks asked) apart opens = by p.loss opens
  where
    f : Frame
    f = frame_of p asked

    by : (loss : Loss) → (is_made loss && begins_as r (part t past) (with_what (event_in past (frame_of p asked)) (seen t (what_in past (frame_of p asked))))) ≡ true → Lacks t r (play_asked past (frame_of p asked) loss).past (with_gap past p.moment p.words t)
    by NotLost k = submission_lacks t r past (frame_of p asked) apart k
    by ByKeeper k = absurd (grind (arith, k))
    by ByMemory k = absurd (grind (arith, k))
    by (Unread close) k = absurd (grind (arith, k))

-- ---- scripts

-- the replies, but at the submission and at the later places where its report is live
pub absent_replies : (i t r : ℕ) (past : Past AllOpened) (ps : List Place) → AreApart t past → BeginsAt i t r past ps → DrawOthersAfter i t r past ps → replies_without i t r past ps (map Some (script_replies past ps)) ≡ replies_without i t r past ps (replies past (without_place i t ps))
absent_replies i t r past [] b o d = absurd o
absent_replies zero t r past (p ∷ ps) b o d =
    ap (λ xs. None ∷ xs) (later_same t r (play past p).past (with_gap past p.moment p.words t) ps d (submission_place t r past p p.reading b o))
absent_replies (suc i) t r past (p ∷ ps) b o d = ap (λ xs. Some (play past p).reply ∷ xs) (absent_replies i t r (play past p).past ps (receipts_place t past p b) o d)

pub absent_pasts : (i t r : ℕ) (past : Past AllOpened) (ps : List Place) → AreApart t past → BeginsAt i t r past ps → DrawOthersAfter i t r past ps → Lacks t r (past_after past ps) (past_with past (without_place i t ps))
absent_pasts i t r past [] b o d = absurd o
absent_pasts zero t r past (p ∷ ps) b o d = later_hosts t r (play past p).past (with_gap past p.moment p.words t) ps d (submission_place t r past p p.reading b o)
absent_pasts (suc i) t r past (p ∷ ps) b o d = absent_pasts i t r (play past p).past ps (receipts_place t past p b) o d

-- the hosts, where the report is not held
pub absent_hosts : (i t r : ℕ) (past : Past AllOpened) (ps : List Place) → AreApart t past → BeginsAt i t r past ps → DrawOthersAfter i t r past ps → is_there r (held (part t (past_after past ps))).plain.cases ≡ false → standing_hosts (past_with past (without_place i t ps)) ≡ standing_hosts (past_after past ps)
absent_hosts i t r past ps b o d none =
    let l : Lacks t r (past_after past ps) (past_with past (without_place i t ps)) = absent_pasts i t r past ps b o d in
    same_standing t r (past_after past ps) (past_with past (without_place i t ps)) l.facts (l.held_same none)
