-- A submission that is answered 201 opens a report.
use Rattle.std.proofs.Common.{◌≡◌, ◌≢◌, ℕ, ◌+◌, Bool, true, false, cond, eqb, [], Option, Some, None, refl, sym, ap, ◌∙◌, arith}
use Rattle.std.specs.Prelude.{nat_le, ◌&&◌}
use Rattle.wb_base.specs.AnswerList.{Answered}
use Rattle.wb_base.specs.declared.words.Words.{Words}
use Rattle.wb_base.specs.declared.callers.Presented.{Presented}
use Rattle.wb_base.specs.declared.faults.AnswerFault.{AnswerFault}
use Rattle.wb_model.specs.declared.body.Told.{Told}
use Rattle.wb_model.specs.declared.command.Asked.{Asked}
use Rattle.wb_model.specs.declared.command.Command.TheVariants as commands
use Rattle.wb_model.specs.declared.event.What.TheVariants.{Did, Idle}
use Rattle.wb_model.specs.Refusals.{keeper_failed, no_memory, not_found, numbers_spent, quota_spent, receipt_taken, faulty}
use Rattle.wb_model.specs.Tables.{Registry, Plain}
use Rattle.wb_model.specs.Targets.{Target, Alone}
use Rattle.wb_model.specs.Requests.{Frame, Outcome, Unchecked, Checked, outcome}
use Rattle.wb_model.specs.Changes.{TurnContext, Change, Answer, judged}
use Rattle.wb_model.specs.Effects.{Effect, Submits}
use Rattle.wb_model.specs.Effects.{in_open}
use Rattle.wb_model.specs.Rules.{refusal_alone, change_alone, answer_alone}
use Rattle.wb_model.specs.Submissions.{Drawing, drawing, outcome_refusal}
use Rattle.wb_model.specs.Refusing.{refuses_where}
use Rattle.std.specs.Option.{option_or}
use Rattle.wb_model.proofs.Effects.{in_open_is}
use Rattle.wb_model.specs.Host.{Sealed, reply_by}
use Rattle.wb_model.specs.Alike.{is_refused}
use Rattle.wb_model.specs.Tenants.{healthy, without_tenant}
use Rattle.wb_model.specs.Past.{Past, registry, last, plain, tables, alone_in}
use Rattle.wb_model.specs.PastTurns.{at_frame, reply_at, target_at, verdict_at, what_by, did, what_at}
use Rattle.wb_model.specs.Commands.{is_read}
use Rattle.wb_model.specs.Routes.{paths}
use Rattle.wb_model.specs.Opened.{Opened}
use Rattle.wb_model.specs.Pasts.{AllOpened, seen, part, has_tenant, what_in}
use Rattle.wb_model.specs.Readings.{Asks}
use Rattle.wb_model.specs.Scripts.{Loss, NotLost, ByKeeper, ByMemory, Unread, Place, play_asked, play_by, play}
use Rattle.wb_model.specs.ScriptsAlike.{is_made}
use Rattle.wb_model.specs.Absence.{begins_here, is_beginning, begins_as}
use Rattle.wb_model.proofs.Found.{same_number}
use Rattle.wb_model.proofs.TurnLaw.{event}
use Rattle.wb_model.proofs.PartLaw.{seen_here}

-- a request that begins a report where nothing refuses it
abbrev Begun : TurnContext → Plain → Outcome → Effect → Type 0
Begun at p o e = is_refused (judged (refusal_alone p.registry (drawing at p) o e) (change_alone at p.registry None o e) (answer_alone at p None e)) ≡ false → is_beginning (change_alone at p.registry None o e) ≡ true

accepted_change : (at : TurnContext) (p : Plain) (o : Outcome) (c : ℕ) → Begun at p o (in_open Submits c p.registry)
accepted_change at p o c = in_open_is (Begun at p o) Submits c p.registry (λ k. absurd (grind (arith, k))) (λ x y is form k. refl)

-- the frame of a submission
abbrev pub submitting : ℕ → Words → Presented → Bool → ℕ → ℕ → Answered → Frame
submitting moment words session close t c answers = record { moment = moment; words = words; asked = record { session = session; command = commands.Submit t c answers; close = close } }

judged_did : (o : Option Told) (ch : Change) (a : Answer) (u : ℕ) (t : Target) (asked : Asked) → is_refused (judged o ch a) ≡ false → what_by (judged o ch a) u t asked ≡ cond (is_read asked.command) Idle (did u t asked)
judged_did None ch a u t asked e = refl
judged_did (Some x) ch a u t asked e = absurd (grind (arith, e))

-- an accepted submission draws the next number for a report
pub accepted_opens : (u : ℕ) (past : Past Opened) (moment : ℕ) (words : Words) (session : Presented) (close : Bool) (t c : ℕ) (answers : Answered) →
    is_refused (verdict_at past (submitting moment words session close t c answers)) ≡ false →
    begins_as (last past + 1) past (event (submitting moment words session close t c answers) (what_at u past (submitting moment words session close t c answers))) ≡ true
unfolding paths
accepted_opens u past moment words session close t c answers accepted =
    let f : Frame = submitting moment words session close t c answers in
    let at : TurnContext = at_frame past f in
    let p : Plain = plain past at.time in
    let o : Outcome = outcome p.registry [] f.asked.command in
    let e : Effect = in_open Submits c p.registry in
    let did_it : what_at u past f ≡ Did f.asked None =
    judged_did (refusal_alone p.registry (drawing at p) o e) (change_alone at p.registry None o e) (answer_alone at p None e) u (Alone None) f.asked accepted in
    let opens : is_beginning (change_alone at p.registry None o e) ≡ true = accepted_change at p o c accepted in
    ap (λ w. is_beginning (alone_in w at (registry past)) && eqb (last past + 1) (last past + 1)) did_it
    ∙ (ap (λ b. b && eqb (last past + 1) (last past + 1)) opens ∙ same_number (last past + 1) (last past + 1) refl)

-- ---- a submission that is answered 201

not_found_status : not_found.status ≢ 201
unfolding not_found
not_found_status e = absurd (omega (arith, e))

spent_status : numbers_spent.status ≢ 201
unfolding numbers_spent
spent_status e = absurd (omega (arith, e))

quota_status : (quota : ℕ) → (quota_spent quota).status ≢ 201
unfolding quota_spent
quota_status quota e = absurd (omega (arith, e))

taken_status : receipt_taken.status ≢ 201
unfolding receipt_taken
taken_status e = absurd (omega (arith, e))

faulty_status : (f : AnswerFault) → (faulty f).status ≢ 201
unfolding faulty
faulty_status f e = absurd (omega (arith, e))

healthy_status : healthy.status ≢ 201
unfolding healthy
healthy_status e = absurd (omega (arith, e))

pub keeper_status : keeper_failed.status ≢ 201
unfolding keeper_failed
keeper_status e = absurd (omega (arith, e))

pub memory_status : no_memory.status ≢ 201
unfolding no_memory
memory_status e = absurd (omega (arith, e))

-- what a refusal of a submission answers is not 201
abbrev pub Answers : Option Told → Type 0
Answers None = Unit {0}
Answers (Some x) = x.status ≢ 201

or_answers : (a b : Option Told) → Answers a → Answers b → Answers (option_or a b)
or_answers None b h k = k
or_answers (Some x) b h k = h

where_answers : (b : Bool) (x : Told) → x.status ≢ 201 → Answers (refuses_where b x)
where_answers true x a = a
where_answers false x a = tt

faulty_answers : (o : Outcome) → Answers (outcome_refusal o)
faulty_answers Unchecked = tt
faulty_answers (Checked None answers marked) = tt
faulty_answers (Checked (Some f) answers marked) = faulty_status f

pub refusal_answers : (g : Registry) (n : Drawing) (o : Outcome) (c : ℕ) → Answers (refusal_alone g n o (in_open Submits c g))
refusal_answers g n o c = in_open_is (λ e. Answers (refusal_alone g n o e)) Submits c g not_found_status (λ x y is form.
    or_answers (outcome_refusal o) _ (faulty_answers o)
    (or_answers (refuses_where (nat_le 4_294_967_295 n.last) numbers_spent) _ (where_answers (nat_le 4_294_967_295 n.last) numbers_spent spent_status)
    (or_answers (refuses_where (nat_le g.settings.quota n.today) (quota_spent g.settings.quota)) _ (where_answers (nat_le g.settings.quota n.today) (quota_spent g.settings.quota) (quota_status g.settings.quota))
    (where_answers n.taken receipt_taken taken_status))))

judged_answered : (o : Option Told) (ch : Change) (a : Answer) (sealed : Sealed) → Answers o → (reply_by (judged o ch a) sealed).status ≡ 201 → is_refused (judged o ch a) ≡ false
judged_answered None ch a sealed k e = refl
judged_answered (Some x) ch a sealed k e = absurd (k e)

answered_accepted : (past : Past Opened) (moment : ℕ) (words : Words) (session : Presented) (close : Bool) (t c : ℕ) (answers : Answered) →
    (reply_at past (submitting moment words session close t c answers)).status ≡ 201 → is_refused (verdict_at past (submitting moment words session close t c answers)) ≡ false
answered_accepted past moment words session close t c answers e =
    let f : Frame = submitting moment words session close t c answers in
    let at : TurnContext = at_frame past f in
    let p : Plain = plain past at.time in
    let o : Outcome = outcome p.registry [] f.asked.command in
    let does : Effect = in_open Submits c p.registry in
    judged_answered (refusal_alone p.registry (drawing at p) o does) (change_alone at p.registry None o does) (answer_alone at p None does)
    (tables past at.time).sealed (refusal_answers p.registry (drawing at p) o c) e

pub no_tenant_status : (t : ℕ) → (without_tenant t).status ≢ 201
no_tenant_status t = by (eqb t 0)
  where
    by : (b : Bool) → (cond b healthy not_found).status ≢ 201
    by true = healthy_status
    by false = not_found_status

-- a place at which a submission is answered 201 draws the next number of its tenant
pub answered_opens : (past : Past AllOpened) (p : Place) (session : Presented) (close : Bool) (t c : ℕ) (answers : Answered) →
    p.reading ≡ Asks (record { session = session; command = commands.Submit t c answers; close = close }) → (play past p).reply.told.status ≡ 201 → begins_here t (last (part t past) + 1) past p p.reading ≡ true
answered_opens past p session close t c answers reads answered =
    ap (begins_here t (last (part t past) + 1) past p) reads ∙ by_loss p.loss (ap (λ x. (play_by past p x).reply.told.status) (sym reads) ∙ answered)
  where
    f : Frame
    f = submitting p.moment p.words session close t c answers

    r : ℕ
    r = last (part t past) + 1

    here : (b : Bool) → has_tenant past t ≡ b → (cond b (reply_at (part t past) (submitting p.moment p.words session close t c answers)) (without_tenant t)).status ≡ 201 →
        begins_as (last (part t past) + 1) (part t past) (record { moment = p.moment; words = p.words; what = seen t (cond b (what_at t (part t past) (submitting p.moment p.words session close t c answers)) Idle) }) ≡ true
    here false has e = absurd (no_tenant_status t e)
    here true has e =
        let accepted : is_refused (verdict_at (part t past) f) ≡ false = answered_accepted (part t past) p.moment p.words session close t c answers e in
        ap (λ w. begins_as r (part t past) (record { moment = p.moment; words = p.words; what = w })) (seen_here t t (verdict_at (part t past) f) (target_at (part t past) f) f.asked refl)
        ∙ accepted_opens t (part t past) p.moment p.words session close t c answers accepted

    by_loss : (loss : Loss) → (play_asked past (submitting p.moment p.words session close t c answers) loss).reply.told.status ≡ 201 →
        (is_made loss && begins_as (last (part t past) + 1) (part t past) (record { moment = p.moment; words = p.words; what = seen t (what_in past (submitting p.moment p.words session close t c answers)) })) ≡ true
    by_loss NotLost e = here (has_tenant past t) refl e
    by_loss ByKeeper e = absurd (keeper_status e)
    by_loss ByMemory e = absurd (memory_status e)
    by_loss (Unread asked) e = absurd (memory_status e)
