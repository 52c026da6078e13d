-- One tenant's turn: the host that stands for a past answers as the past says, and then stands for the past with that turn.
use Rattle.std.proofs.Common.{◌≡◌, ℕ, ◌+◌, ◌≤◌, Bool, true, false, cond, List, [], Option, Some, None, refl, sym, ap, ◌∙◌, subst, arith, int_eq, option_map}
use Rattle.std.specs.Prelude.{filter, map, ◌&&◌}
use Rattle.wb_base.specs.declared.callers.Presented.{Presented}
use Rattle.wb_base.specs.declared.callers.Principal.{Principal}
use Rattle.wb_model.specs.declared.body.Told.{Told}
use Rattle.wb_model.specs.declared.command.Asked.{Asked}
use Rattle.wb_model.specs.declared.command.Command.{Command}
use Rattle.wb_model.specs.declared.entry.Entry.{Entry}
use Rattle.wb_model.specs.declared.event.Event.{Event}
use Rattle.wb_model.specs.declared.event.What.{What}
use Rattle.wb_model.specs.declared.event.What.TheVariants.{Idle}
use Rattle.wb_model.specs.declared.numbering.Numbering.{Numbering}
use Rattle.wb_model.specs.Tables.{Registry, Plain, Case, Who, is_there, is_live}
use Rattle.wb_model.specs.Targets.{Target, Nobody, Alone, On, trail_at}
use Rattle.wb_model.specs.Requests.{Frame, Outcome, Request, outline, outcome, request, secret_of, plain_part}
use Rattle.wb_model.specs.Settings.{Setting, OfTenant, configured}
use Rattle.wb_model.specs.Changes.{TurnContext, Change, Nothing, Configures, Answer, Verdict, Refused, Accepted, judged}
use Rattle.wb_model.specs.Effects.{Effect, Misses, Looks, Reads}
use Rattle.wb_model.specs.Commands.{effect_of, is_read}
use Rattle.wb_model.specs.OnReports.{change_on}
use Rattle.wb_model.proofs.Effects.{IsToldBy, told, outlined}
use Rattle.wb_model.specs.Rules.{change_alone, verdict_on}
use Rattle.wb_model.specs.Host as host
use Rattle.wb_model.specs.Host.{Tables, Host, registry_after, cases_after, changed, reply_by, ruling, tables_after}
use Rattle.wb_model.specs.Past.{Past, Turn, now, at_of, report_of, about, change_by, secret_in, registry, alone_at, drew, last, drawn_at, day, drawn, numbering, numbers, trail_of, trail, change_at, sealed, case_of, live_reports, logins, stands_by, is_ended, plain, tables}
use Rattle.wb_model.specs.PastTurns.{at_frame, verdict_at, reply_at, target_at, principal, did, what_by, what_at}
use Rattle.wb_model.specs.Opened.{Opened}
use Rattle.wb_model.proofs.Found.{Held, held_filter, held_map, filter_same}
use Rattle.wb_model.proofs.Agreeing.{Agree, alone_agrees}
use Rattle.wb_model.proofs.Drawn.{same_day, drawn_now}
use Rattle.wb_model.proofs.Fitting.{Fits, verdict_fits, target_held, held_there}
use Rattle.wb_model.proofs.Placed.{alone_placed, on_placed, who_principal, whose}
use Rattle.wb_model.proofs.PastLaw.{same_tables, same_plain, case_after, cases_law, sealed_law}
use Rattle.wb_model.proofs.SessionsLaw.{made_turn, sessions_law}
use Rattle.wb_model.proofs.KeptContexts.{kept_contexts}

-- ---- an event whose change fits

pub same_numbering : (a b : Numbering) → a.at ≡ b.at → a.drawn ≡ b.drawn → a.last ≡ b.last → a ≡ b
same_numbering a b t d l = λ i. record { at = t i; drawn = d i; last = l i }

pub numbering_step : (past : Past Opened) (time : ℕ) (b : Bool) → now past ≤ time →
    ◌≡◌ {A = Numbering}
    (record { at = cond b time (drawn_at past); drawn = cond (b && int_eq (day past time) (day past (cond b time (drawn_at past)))) (drawn past (day past (cond b time (drawn_at past))) + 1) (drawn past (day past (cond b time (drawn_at past)))); last = cond b (last past + 1) (last past) })
    (cond b (host.drawn time (registry past).settings (numbering past)) (numbering past))
numbering_step past time true le =
    same_numbering _ _ refl
    (ap (λ b. cond b (drawn past (day past time) + 1) (drawn past (day past time))) (same_day (day past time) (day past time) refl) ∙ ap (λ n. n + 1) (sym (drawn_now past time le))) refl
numbering_step past time false le = refl

-- no setting changes what is live
pub live_kept : (change : Change) (g : Registry) (time : ℕ) (c : Case) → is_live (registry_after change g).settings time c ≡ is_live g.settings time c
live_kept (Configures setting) g time c = by setting
  where
    by : (s : Setting) → is_live (configured s g).settings time c ≡ is_live g.settings time c
    by (OfTenant next) = refl
    by _ = refl
live_kept _ g time c = refl

-- the tables after an event whose change fits
pub event_law : (past : Past Opened) (e : Event) → Fits (at_of past e) (plain past (at_of past e).time) (change_at past e) →
    tables (Turn e past) (at_of past e).time ≡ changed (at_of past e).time (change_at past e) (secret_in e.what (registry past)) (tables past (at_of past e).time)
event_law past e fits =
    let at : TurnContext = at_of past e in
    let ch : Change = change_at past e in
    let same : Agree (alone_at past e) ch = alone_agrees e.what at (registry past) (trail_of (about e.what) (trail past)) in
    let cases : live_reports (Turn e past) at.time ≡ cases_after ch (last past) (live_reports past at.time) =
    filter_same _ (is_live (registry past).settings at.time) (live_kept (alone_at past e) (registry past) at.time) (map (case_after past at.time ch) (numbers (Turn e past)))
    ∙ cases_law past at ch fits in
    same_tables _ _
    (same_plain _ _ (same.setting (registry past))
    (numbering_step past at.time (drew past e) (omega arith) ∙ ap (λ b. cond b (host.drawn at.time (registry past).settings (numbering past)) (numbering past)) same.drawing)
    cases
    (ap (λ (cs : List Case). filter (stands_by (is_ended (Turn e past)) at.time cs) (logins (Turn e past))) cases ∙ sessions_law past at ch fits (made_turn past e)))
    (λ q. ap (λ (cs : List Case). cond (is_there q cs) (sealed (Turn e past) q) None) cases ∙ sealed_law past at ch (secret_in e.what (registry past)) q fits)

-- ---- the event of an accepted request

abbrev pub event : Frame → What → Event
event f w = record { moment = f.moment; words = f.words; what = w }

pub judged_is : (o : Option Told) (x y : Change) (a b : Answer) → judged o x a ≡ Accepted y b → x ≡ y
judged_is None x y a b e = cc
judged_is (Some r) x y a b e = absurd (grind (arith, e))

-- the report of a target is as the past has it
pub held_trail : (past : Past Opened) (time : ℕ) (c : Case) → Held c (live_reports past time) → trail past c.number ≡ c.trail
held_trail past time c h =
    let k = held_map (case_of past) (numbers past) c (held_filter (is_live (registry past).settings time) (map (case_of past) (numbers past)) c h).0 in
    ap (λ (x : Case). trail past x.number) k.1 ∙ sym (ap (λ (x : Case). x.trail) k.1)

-- what is known of a target: its report is the past's, and its caller and command tell which
pub record IsKnown (past : Past Opened) (u : ℕ) (a : Asked) (t : Target) : Type 0 where
  pub alone : (who : Option Who) → t ≡ Alone who → report_of a.command (option_map (principal u) who) ≡ None
  pub on : (who : Who) (c : Case) → t ≡ On who c → (report_of a.command (Some (principal u who)) ≡ Some c.number) × (trail past c.number ≡ c.trail)

-- an accepted request's event changes what the verdict says
pub did_change : (past : Past Opened) (f : Frame) (u : ℕ) (t : Target) (ch : Change) (ans : Answer) → IsKnown past u f.asked t →
    verdict_on (plain past (at_frame past f).time) (at_frame past f) (request (registry past) (trail_at t) f.asked) t ≡ Accepted ch ans → change_at past (event f (did u t f.asked)) ≡ ch
did_change past f u (Nobody x) ch ans known e = absurd (grind (arith, e))
did_change past f u (Alone who) ch ans known e =
    let at : TurnContext = at_frame past f in
    let g : Registry = registry past in
    let by : Option Principal = option_map (principal u) who in
    let q : Request = request g [] f.asked in
    let p : Plain = plain past at.time in
    ap (λ place. change_by at g (trail_of place (trail past)) f.asked by place) (known.alone who refl)
    ∙ (ap (λ w. change_alone at g w (outcome g [] f.asked.command) (effect_of at g w f.asked.session [] (outline f.asked.command))) (whose u who)
    ∙ judged_is _ _ ch _ ans e)
did_change past f u (On who c) ch ans known e =
    let at : TurnContext = at_frame past f in
    let g : Registry = registry past in
    let q : Request = request g c.trail f.asked in
    ap (λ place. change_by at g (trail_of place (trail past)) f.asked (Some (principal u who)) place) (known.on who c refl).0
    ∙ (ap (λ w. change_on at g w c.number (trail past c.number) (effect_of at g (Some w) f.asked.session (trail past c.number) (outline f.asked.command))) (who_principal u who)
    ∙ (ap (λ tr. change_on at g who c.number tr (effect_of at g (Some who) f.asked.session tr (outline f.asked.command))) (known.on who c refl).1
    ∙ judged_is _ _ ch _ ans e))

pub did_secret : (g : Registry) (u : ℕ) (t : Target) (a : Asked) → ((x : Told) → t ≡ Nobody x → ⊥) → secret_in (did u t a) g ≡ secret_of g a.command
did_secret g u (Nobody x) a some = absurd (some x refl)
did_secret g u (Alone who) a some = refl
did_secret g u (On who c) a some = refl

-- a request that only reads changes nothing
abbrev pub IsRead : Effect → Type 0
IsRead Misses = Unit {0}
IsRead (Looks view) = Unit {0}
IsRead (Reads part) = Unit {0}
IsRead _ = ⊥

pub read_effect : (at : TurnContext) (g : Registry) (who : Option Who) (s : Presented) (es : List Entry) (d : Command) → is_read d ≡ true → IsRead (effect_of at g who s es (outline d))
read_effect at g who s es d e = subst IsRead (outlined at g who s es d) (by (effect_of at g who s es d) (told at g who s es d))
  where
    no_less : true ≡ false → ⊥
    no_less e = grind (arith, e)

    by : (x : Effect) → IsToldBy g s d x → IsRead x
    by Misses k = tt
    by (Looks view) k = tt
    by (Reads part) k = tt
    by _ k = absurd (no_less (sym e ∙ k.0))

pub read_alone : (at : TurnContext) (g : Registry) (who : Option Who) (o : Outcome) (e : Effect) → IsRead e → change_alone at g who o e ≡ Nothing
read_alone at g who o Misses is = refl
read_alone at g who o (Looks view) is = refl
read_alone at g who o (Reads part) is = refl
read_alone at g who o _ is = absurd is

pub read_on : (at : TurnContext) (g : Registry) (who : Who) (n : ℕ) (es : List Entry) (e : Effect) → IsRead e → change_on at g who n es e ≡ Nothing
read_on at g who n es Misses is = refl
read_on at g who n es (Looks view) is = refl
read_on at g who n es (Reads part) is = refl
read_on at g who n es _ is = absurd is

pub read_change : (past : Past Opened) (f : Frame) (t : Target) (ch : Change) (ans : Answer) → is_read f.asked.command ≡ true →
    verdict_on (plain past (at_frame past f).time) (at_frame past f) (request (registry past) (trail_at t) f.asked) t ≡ Accepted ch ans → ch ≡ Nothing
read_change past f (Nobody x) ch ans reads e = absurd (grind (arith, e))
read_change past f (Alone who) ch ans reads e =
    let at : TurnContext = at_frame past f in
    let g : Registry = registry past in
    let q : Request = request g [] f.asked in
    let p : Plain = plain past at.time in
    sym (judged_is _ _ ch _ ans e)
    ∙ read_alone at g who q.outcome (effect_of at g who q.session [] q.command) (read_effect at g who q.session [] f.asked.command reads)
read_change past f (On who c) ch ans reads e =
    let at : TurnContext = at_frame past f in
    let g : Registry = registry past in
    let q : Request = request g c.trail f.asked in
    sym (judged_is _ _ ch _ ans e)
    ∙ read_on at g who c.number c.trail (effect_of at g (Some who) q.session c.trail q.command) (read_effect at g (Some who) q.session c.trail f.asked.command reads)

-- ---- the tables after a turn

pub TurnIs : Past Opened → Frame → What → Change → Type 0
TurnIs past f w ch = tables (Turn (event f w) past) (at_frame past f).time ≡ changed (at_frame past f).time ch (secret_of (registry past) f.asked.command) (tables past (at_frame past f).time)

pub idle_law : (past : Past Opened) (f : Frame) → tables (Turn (event f Idle) past) (at_frame past f).time ≡ tables past (at_frame past f).time
idle_law past f = event_law past (event f Idle) tt

pub turn_of : (past : Past Opened) (f : Frame) (ch : Change) (w : What) → change_at past (event f w) ≡ ch → secret_in w (registry past) ≡ secret_of (registry past) f.asked.command →
    Fits (at_frame past f) (plain past (at_frame past f).time) ch → TurnIs past f w ch
unfolding TurnIs
turn_of past f ch w is secret fits =
    event_law past (event f w) (subst (Fits (at_frame past f) (plain past (at_frame past f).time)) (sym is) fits)
    ∙ (ap (λ x. changed (at_frame past f).time x (secret_in w (registry past)) (tables past (at_frame past f).time)) is
    ∙ ap (λ s. changed (at_frame past f).time ch s (tables past (at_frame past f).time)) secret)

pub no_target : (p : Plain) (at : TurnContext) (q : Request) (t : Target) (x : Told) (ch : Change) (ans : Answer) → verdict_on p at q t ≡ Accepted ch ans → t ≡ Nobody x → ⊥
no_target p at q t x ch ans e is = let bad : Refused x ≡ Accepted ch ans = ap (verdict_on p at q) (sym is) ∙ e in grind (arith, bad)

pub accepted_turn : (past : Past Opened) (f : Frame) (u : ℕ) (t : Target) (ch : Change) (ans : Answer) (reads : Bool) → is_read f.asked.command ≡ reads → IsKnown past u f.asked t →
    verdict_on (plain past (at_frame past f).time) (at_frame past f) (request (registry past) (trail_at t) f.asked) t ≡ Accepted ch ans →
    Fits (at_frame past f) (plain past (at_frame past f).time) ch → TurnIs past f (cond reads Idle (did u t f.asked)) ch
unfolding TurnIs
accepted_turn past f u t ch ans true is known e fits =
    idle_law past f ∙ ap (λ x. changed (at_frame past f).time x (secret_of (registry past) f.asked.command) (tables past (at_frame past f).time)) (sym (read_change past f t ch ans is e))
accepted_turn past f u t ch ans false is known e fits =
    turn_of past f ch (did u t f.asked) (did_change past f u t ch ans known e)
    (did_secret (registry past) u t f.asked (λ x k. no_target (plain past (at_frame past f).time) (at_frame past f) (request (registry past) (trail_at t) f.asked) t x ch ans e k)) fits

pub turn_by : (past : Past Opened) (f : Frame) (u : ℕ) (t : Target) (v : Verdict) → IsKnown past u f.asked t →
    verdict_on (plain past (at_frame past f).time) (at_frame past f) (request (registry past) (trail_at t) f.asked) t ≡ v →
    Fits (at_frame past f) (plain past (at_frame past f).time) (host.change_of v) → TurnIs past f (what_by v u t f.asked) (host.change_of v)
unfolding TurnIs
turn_by past f u t (Refused x) known e fits = idle_law past f
turn_by past f u t (Accepted ch ans) known e fits = accepted_turn past f u t ch ans (is_read f.asked.command) refl known e fits

pub known_target : (past : Past Opened) (u : ℕ) (f : Frame) → IsKnown past u f.asked (target_at past f)
known_target past u f =
    let p : Plain = plain past (at_frame past f).time in
    record {
      alone = λ who e. alone_placed u p f.asked.session f.asked.command who e;
      on = λ who c e. (on_placed u p f.asked.session f.asked.command who c e, held_trail past (at_frame past f).time c (target_held p f.asked.session (outline f.asked.command) who c e));
    }

-- a turn
pub turn_tables : (u : ℕ) (past : Past Opened) (f : Frame) → tables (Turn (event f (what_at u past f)) past) (at_frame past f).time ≡ tables_after (tables past (at_frame past f).time) (at_frame past f) f.asked
unfolding TurnIs
turn_tables u past f =
    let p : Plain = plain past (at_frame past f).time in
    turn_by past f u (target_at past f) (verdict_at past f) (known_target past u f) refl
    (verdict_fits p (at_frame past f) (plain_part p f.asked) (target_at past f) (kept_contexts past) (λ who c e. let h = target_held p f.asked.session (outline f.asked.command) who c e in (held_there (live_reports past (at_frame past f).time) c h, (held_filter (is_live (registry past).settings (at_frame past f).time) (map (case_of past) (numbers past)) c h).1)))

-- ---- what a turn is told by

pub same_verdict : (past other : Past Opened) (f : Frame) → at_frame past f ≡ at_frame other f → tables past (at_frame past f).time ≡ tables other (at_frame other f).time → verdict_at past f ≡ verdict_at other f
same_verdict past other f at t = λ i. ruling (t i) (at i) f.asked

pub same_told : (past other : Past Opened) (f : Frame) → at_frame past f ≡ at_frame other f → tables past (at_frame past f).time ≡ tables other (at_frame other f).time → reply_at past f ≡ reply_at other f
same_told past other f at t = λ i. reply_by (ruling (t i) (at i) f.asked) (t i).sealed

pub same_after : (u : ℕ) (past other : Past Opened) (f : Frame) → at_frame past f ≡ at_frame other f → tables past (at_frame past f).time ≡ tables other (at_frame other f).time →
    tables (Turn (event f (what_at u past f)) past) (at_frame past f).time ≡ tables (Turn (event f (what_at u other f)) other) (at_frame other f).time
same_after u past other f at t = turn_tables u past f ∙ ((λ i. tables_after (t i) (at i) f.asked) ∙ sym (turn_tables u other f))
