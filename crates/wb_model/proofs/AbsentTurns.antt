-- The turn of one request in two pasts, of which the second lacks one report.
use Rattle.std.proofs.Common.{◌≡◌, ◌≢◌, ◌⊎◌, inl, inr, ℕ, ◌+◌, ◌≤◌, Bool, true, false, cond, eqb, Option, Some, None, refl, sym, ap, ◌∙◌, subst, arith}
use Rattle.std.specs.Prelude.{max, ◌&&◌}
use Rattle.std.specs.List.{list_any}
use Rattle.wb_base.specs.declared.words.Digest.{Digest}
use Rattle.wb_base.specs.AnswerList.{is_text}
use Rattle.wb_model.specs.declared.event.Event.{Event}
use Rattle.wb_model.specs.declared.event.What.{What}
use Rattle.wb_model.specs.declared.event.What.TheVariants.{Idle}
use Rattle.wb_base.specs.Secrets.{digest, receipt_text}
use Rattle.wb_model.specs.Trails.{receipt}
use Rattle.wb_model.specs.Tables.{Registry, Plain, Case, Who, has_receipt, is_there}
use Rattle.wb_model.specs.Targets.{Target, Nobody, Alone, On, target}
use Rattle.wb_model.specs.Requests.{Frame, outline}
use Rattle.wb_model.specs.Changes.{TurnContext}
use Rattle.wb_model.specs.Submissions.{drawing}
use Rattle.wb_model.specs.Host.{Tables}
use Rattle.wb_model.specs.Tenants.{tenant_at}
use Rattle.wb_model.specs.Past.{trail, case_of, Past, at_of, about, alone_in, registry, last, live, live_reports, plain, tables}
use Rattle.wb_model.specs.PastTurns.{at_frame, target_at, did, what_at}
use Rattle.wb_model.specs.Commands.{is_read}
use Rattle.wb_model.specs.Opened.{Apart, Opened}
use Rattle.wb_model.specs.Pasts.{AllOpened, seen, part, has_tenant, what_in}
use Rattle.wb_model.specs.Absence.{shrunk, without, is_beginning, is_on}
use Rattle.wb_model.specs.Commands.{is_submission}
use Rattle.wb_model.proofs.Found.{Held, decide, other_number}
use Rattle.wb_model.proofs.Fitting.{held_there}
use Rattle.wb_model.proofs.PastLaw.{there_live}
use Rattle.wb_model.proofs.Leaving.{truth, taken_others}
use Rattle.wb_model.proofs.TargetsWithout.{WhatWithout, kept, idle, dropped, what_for, what_without}
use Rattle.wb_model.proofs.Gapless.{Gapless, gapless_tables, with_what}
use Rattle.wb_model.proofs.GapSteps.{WhatStep, stays, empties}
use Rattle.wb_model.proofs.TurnLaw.{held_trail, known_target, IsKnown}
use Rattle.wb_model.proofs.PartLaw.{own_turn, others_turn}
use Rattle.wb_model.proofs.AbsentPast.{AllGapless, SeenStep}
use Rattle.wb_model.proofs.SessionsApart.{apart_sessions}
use Rattle.wb_model.proofs.Receipts.{Receipts, later_receipts, idle_unless}

-- ---- the turn of one request

off_opens : (b : Bool) (last r : ℕ) → r ≤ last → (b && eqb (last + 1) r) ≡ false
off_opens true last r le = other_number (last + 1) r (omega arith)
off_opens false last r le = refl

off_place : (r : ℕ) (place : Option ℕ) → (place ≡ Some r → ⊥) → is_on r place ≡ false
off_place r None ne = refl
off_place r (Some n) ne = other_number n r (λ e. ne (ap Some e))

-- the event of a request whose report is not r is not on r
off_did : (r u : ℕ) (past : Past Opened) (f : Frame) (b : Target) → IsKnown past u f.asked b → ((who : Who) (c : Case) → b ≡ On who c → c.number ≢ r) → is_on r (about (did u b f.asked)) ≡ false
off_did r u past f (Nobody x) known off = refl
off_did r u past f (Alone who) known off = ap (is_on r) (known.alone who refl)
off_did r u past f (On who c) known off = ap (is_on r) (known.on who c refl).0 ∙ other_number c.number r (off who c refl)

off_read : (r : ℕ) (b : Bool) (w : What) → is_on r (about w) ≡ false → is_on r (about (cond b Idle w)) ≡ false
off_read r true w e = refl
off_read r false w e = e

read_step : (r last : ℕ) (at : TurnContext) (g : Registry) (b : Bool) (w : What) → r ≤ last → about w ≡ Some r → WhatStep r last at g (cond b Idle w) Idle
read_step r last at g true w le on = stays refl refl refl
read_step r last at g false w le on = empties on refl

moved_step : (r last : ℕ) (at : TurnContext) (g : Registry) (w v x y : What) → w ≡ x → v ≡ y → WhatStep r last at g x y → WhatStep r last at g w v
moved_step r last at g w v x y e f s = subst (λ z. WhatStep r last at g z v) (sym e) (subst (WhatStep r last at g x) (sym f) s)

step_by : (r u : ℕ) (past : Past Opened) (f : Frame) (at : TurnContext) (g : Registry) (b : Target) (w v : What) → r ≤ last past → IsKnown past u f.asked b → WhatWithout r u f.asked b w v → WhatStep r (last past) at g w v
step_by r u past f at g b w v le known (kept e same off) =
    stays same (ap (λ x. is_on r (about x)) e ∙ off_read r (is_read f.asked.command) (did u b f.asked) (off_did r u past f b known off)) (off_opens (is_beginning (alone_in w at g)) (last past) r le)
step_by r u past f at g b w v le known (idle e same) = moved_step r (last past) at g w v Idle Idle e same (stays refl refl refl)
step_by r u past f at g b w v le known (dropped who c on here e same) =
    moved_step r (last past) at g w v (cond (is_read f.asked.command) Idle (did u b f.asked)) Idle e same
    (read_step r (last past) at g (is_read f.asked.command) (did u b f.asked) le
    (subst (λ x. about (did u x f.asked) ≡ Some r) (sym on) ((known.on who c on).0 ∙ ap Some here)))

pub same_frame : (r : ℕ) (past other : Past Opened) (f : Frame) → Gapless r past other → at_frame other f ≡ at_frame past f
same_frame r past other f g = λ i. record { time = max (g.moments i) f.moment; turn = g.counts i + 1; words = f.words }

-- what a request's turn is is told by the tables
abbrev what_of : Tables → TurnContext → ℕ → Frame → What
what_of t at u f = what_for t.plain at u f.asked (target t.plain f.asked.session (outline f.asked.command))

what_gapless : (r u : ℕ) (past other : Past Opened) (f : Frame) → Gapless r past other → what_at u other f ≡ what_of (without r (tables past (at_frame past f).time)) (at_frame past f) u f
what_gapless r u past other f g =
    ap (λ at. what_of (tables other at.time) at u f) (same_frame r past other f g) ∙ ap (λ t. what_of t (at_frame past f) u f) (gapless_tables r (at_frame past f).time past other (omega arith) g)

-- a submission draws another receipt than r's, while r is live
abbrev pub DrawsOther : ℕ → Past Opened → Frame → Type 0
DrawsOther r past f = is_submission f.asked.command ≡ true → live past r (at_frame past f).time ≡ true → has_receipt (digest (registry past).settings.salt (receipt_text f.words)) (case_of past r) ≡ false

-- what stands in the way of a draw is the same without r
drawing_same : (r : ℕ) (past : Past Opened) (f : Frame) → DrawsOther r past f → is_submission f.asked.command ≡ true → drawing (at_frame past f) (shrunk r (plain past (at_frame past f).time)) ≡ drawing (at_frame past f) (plain past (at_frame past f).time)
drawing_same r past f draws_other is = ap (λ taken. record (drawing (at_frame past f) (plain past (at_frame past f).time)) { taken = taken }) (taken_others d r (live_reports past time) off)
  where
    time : ℕ
    time = (at_frame past f).time

    d : Digest
    d = digest (registry past).settings.salt (receipt_text f.words)

    off : (c : Case) → Held c (live_reports past (at_frame past f).time) → c.number ≡ r → has_receipt (digest (registry past).settings.salt (receipt_text f.words)) c ≡ false
    off c h here =
        let there : is_there r (live_reports past (at_frame past f).time) ≡ true = ap (λ n. is_there n (live_reports past (at_frame past f).time)) (sym here) ∙ held_there (live_reports past (at_frame past f).time) c h in
        let same : trail past r ≡ c.trail = ap (trail past) (sym here) ∙ held_trail past (at_frame past f).time c h in
        ap (λ t. is_text (receipt t) (digest (registry past).settings.salt (receipt_text f.words)).0) (sym same) ∙ draws_other is (there_live past (at_frame past f).time r there)

-- the event of a request without r stands in the place of that with it
pub request_step : (r u : ℕ) (past other : Past Opened) (f : Frame) (at : TurnContext) (g : Registry) → r ≤ last past → Apart has_receipt (live_reports past (at_frame past f).time) → DrawsOther r past f → Gapless r past other → WhatStep r (last past) at g (what_at u past f) (what_at u other f)
request_step r u past other f at g le receipts draws_other same =
    let p : Plain = plain past (at_frame past f).time in
    step_by r u past f at g (target_at past f) (what_at u past f) (what_at u other f) le (known_target past u f)
    (subst (WhatWithout r u f.asked (target_at past f) (what_at u past f)) (sym (what_gapless r u past other f same))
    (what_without r p (at_frame past f) u f.asked (drawing_same r past f draws_other) receipts (apart_sessions past (at_frame past f).time)))

-- ---- the turn of all tenants

pub same_has : (t r u : ℕ) (past other : Past AllOpened) → AllGapless t r past other → has_tenant other u ≡ has_tenant past u
same_has t r u past other g = ap (list_any (λ v. eqb v u)) g.same_tenants

abbrev pub event_in : Past AllOpened → Frame → Event
event_in past f = record { moment = f.moment; words = f.words; what = what_in past f }

-- another tenant sees the same turn
pub rest_seen : (t r u : ℕ) (past other : Past AllOpened) (f : Frame) → AllGapless t r past other → u ≢ t → seen u (what_in other f) ≡ seen u (what_in past f)
rest_seen t r u past other f g ne = by (decide u (tenant_at f)) (truth (has_tenant past (tenant_at f)))
  where
    by : (u ≡ tenant_at f) ⊎ (u ≢ tenant_at f) → (has_tenant past (tenant_at f) ≡ true) ⊎ (has_tenant past (tenant_at f) ≡ false) → seen u (what_in other f) ≡ seen u (what_in past f)
    by (inr away) has = others_turn other f u away ∙ sym (others_turn past f u away)
    by (inl e) (inl has) =
        let n : ℕ = tenant_at f in
        ap (λ v. seen v (what_in other f)) e
        ∙ (own_turn other f (same_has t r n past other g ∙ has)
        ∙ (ap (λ p. what_at n p f) (g.rest n (λ k. ne (e ∙ k)))
        ∙ (sym (own_turn past f has) ∙ ap (λ v. seen v (what_in past f)) (sym e))))
    by (inl e) (inr has) =
        let n : ℕ = tenant_at f in
        idle_unless u (has_tenant other n) (what_at n (part n other) f) (same_has t r n past other g ∙ has) ∙ sym (idle_unless u (has_tenant past n) (what_at n (part n past) f) has)

pub own_seen : (t r : ℕ) (past other : Past AllOpened) (f : Frame) → AllGapless t r past other → r ≤ last (part t past) → Receipts (part t past) → (t ≡ tenant_at f → DrawsOther r (part t past) f) → SeenStep t r past (event_in past f) (what_in other f)
own_seen t r past other f g le receipts draws_other = by (decide t (tenant_at f)) (truth (has_tenant past (tenant_at f)))
  where
    at : TurnContext
    at = at_of (part t past) (with_what (event_in past f) (seen t (what_in past f)))

    idles : seen t (what_in past f) ≡ Idle → seen t (what_in other f) ≡ Idle → SeenStep t r past (event_in past f) (what_in other f)
    idles e k = moved_step r (last (part t past)) (at_of (part t past) (with_what (event_in past f) (seen t (what_in past f)))) (registry (part t past)) _ _ Idle Idle e k (stays refl refl refl)

    by : (t ≡ tenant_at f) ⊎ (t ≢ tenant_at f) → (has_tenant past (tenant_at f) ≡ true) ⊎ (has_tenant past (tenant_at f) ≡ false) → SeenStep t r past (event_in past f) (what_in other f)
    by (inr away) has = idles (others_turn past f t away) (others_turn other f t away)
    by (inl e) (inr has) =
        let n : ℕ = tenant_at f in
        idles (idle_unless t (has_tenant past n) (what_at n (part n past) f) has) (idle_unless t (has_tenant other n) (what_at n (part n other) f) (same_has t r n past other g ∙ has))
    by (inl e) (inl has) =
        let n : ℕ = tenant_at f in
        moved_step r (last (part t past)) (at_of (part t past) (with_what (event_in past f) (seen t (what_in past f)))) (registry (part t past)) _ _ (what_at t (part t past) f) (what_at t (part t other) f)
        (ap (λ v. seen v (what_in past f)) e ∙ (own_turn past f has ∙ ap (λ v. what_at v (part v past) f) (sym e)))
        (ap (λ v. seen v (what_in other f)) e ∙ (own_turn other f (same_has t r n past other g ∙ has) ∙ ap (λ v. what_at v (part v other) f) (sym e)))
        (request_step r t (part t past) (part t other) f _ (registry (part t past)) le (later_receipts (part t past) (at_frame (part t past) f).time (omega arith) receipts) (draws_other e) g.own)
