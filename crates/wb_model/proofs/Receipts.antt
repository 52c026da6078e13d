-- The live reports of a tenant keep different receipts.
use Rattle.std.proofs.Common.{◌≡◌, ◌≢◌, ◌⊎◌, inl, inr, ℕ, ◌+◌, ◌≤◌, Bool, true, false, cond, eqb, List, [], ◌∷◌, ◌++◌, Option, Some, None, refl, sym, ap, ◌∙◌, subst, arith}
use Rattle.std.specs.Prelude.{find, map, is_some}
use Rattle.std.specs.Cmp.Lexicographic.{bytes_decides}
use Rattle.wb_base.specs.declared.words.Digest.{Digest}
use Rattle.wb_base.specs.AnswerList.{is_text}
use Rattle.wb_model.specs.declared.body.Told.{Told}
use Rattle.wb_model.specs.declared.entry.Entry.{Entry}
use Rattle.wb_model.specs.declared.event.What.{What}
use Rattle.wb_model.specs.declared.event.What.TheVariants.{Idle, Lost}
use Rattle.wb_model.specs.declared.registry.ContextItem.{ContextItem}
use Rattle.wb_model.specs.declared.registry.FormItem.{FormItem}
use Rattle.wb_base.specs.Secrets.{digest, receipt_text}
use Rattle.wb_model.specs.Trails.{receipt}
use Rattle.wb_model.specs.Tables.{Registry, Plain, Case, Who, has_receipt, with_receipt, is_live}
use Rattle.wb_model.specs.Targets.{Target, Nobody, Alone, On}
use Rattle.wb_model.specs.Refusals.{numbers_spent, quota_spent, receipt_taken}
use Rattle.wb_model.specs.Requests.{Frame, Outcome, Request, plain_part}
use Rattle.wb_model.specs.Changes.{TurnContext, Change, Begins, Deletes, Notes, Answer, judged}
use Rattle.wb_model.specs.Effects.{Effect, Writes, Submits, Sets}
use Rattle.wb_model.specs.OnReports.{change_on}
use Rattle.wb_model.specs.Rules.{refusal_alone, change_alone, effect_at, verdict_on}
use Rattle.wb_model.specs.Refusing.{refuses_where}
use Rattle.std.specs.Option.{option_or}
use Rattle.std.specs.Prelude.{nat_le}
use Rattle.wb_model.specs.Submissions.{drawing, submission_entry, outcome_refusal}
use Rattle.wb_model.specs.Host.{Tables, noted, cases_after, change_of, ruling}
use Rattle.wb_model.specs.Tenants.{tenant_at}
use Rattle.wb_model.specs.Past.{numbers, case_of, Past, Turn, now, registry, last, live_reports, plain, tables}
use Rattle.wb_model.specs.PastTurns.{at_frame, target_at, what_at}
use Rattle.wb_model.specs.Opened.{Apart, Opened}
use Rattle.wb_model.specs.Pasts.{AllOpened, seen, part, has_tenant, time, what_in, with_turn}
use Rattle.wb_model.specs.Readings.{Reading, Asks, Refuses}
use Rattle.wb_model.specs.Scripts.{Loss, NotLost, ByKeeper, ByMemory, Unread, Place, frame_of, play_asked, play_by, play}
use Rattle.wb_model.proofs.Found.{decide}
use Rattle.wb_model.proofs.LiveActs.{LeavesReceipt, doing_receipt}
use Rattle.wb_model.proofs.Effects.{set_is}
use Rattle.wb_model.proofs.PastLaw.{live_twice}
use Rattle.wb_model.proofs.Leaving.{truth, apart_filter, apart_push, apart_map}
use Rattle.wb_model.proofs.TurnLaw.{event, turn_tables, idle_law}
use Rattle.wb_model.proofs.PartLaw.{own_turn, others_turn}

-- ---- what a request changes

-- the receipt of what begins with the entry is no report's
abbrev pub HasOwnReceipt : Entry → List Case → Type 0
HasOwnReceipt entry cs = (d : Digest) (n : ℕ) → has_receipt d (record { number = n; trail = entry ∷ [] }) ≡ true → with_receipt d cs ≡ None

-- what is opened has a receipt of its own, and what is noted leaves its report's
abbrev pub HasOwn : Plain → Change → Type 0
HasOwn p (Begins entry) = HasOwnReceipt entry p.cases
HasOwn p (Notes n entry) = LeavesReceipt entry
HasOwn p _ = Unit {0}

pub same_text : (s t : List ℕ) → is_text s t ≡ true → s ≡ t
same_text s t e = (bytes_decides s t).0 e

untaken : (o : Option Case) → is_some o ≡ false → o ≡ None
untaken None e = refl
untaken (Some c) e = absurd (grind (arith, e))

opened_own : (at : TurnContext) (g : Registry) (o : Outcome) (x : ContextItem) (form : FormItem) (cs : List Case) → is_some (with_receipt (digest g.settings.salt (receipt_text at.words)) cs) ≡ false → HasOwnReceipt (submission_entry at g o x form) cs
unfolding submission_entry
opened_own at g o x form cs free d n is =
    let same : (digest g.settings.salt (receipt_text at.words)).0 ≡ d.0 = same_text (digest g.settings.salt (receipt_text at.words)).0 d.0 is in
    ap (λ (z : List ℕ). find (λ (c : Case). is_text (receipt c.trail) z) cs) (sym same) ∙ untaken (with_receipt (digest g.settings.salt (receipt_text at.words)) cs) free

-- a submission that is not refused draws a receipt that is free
last_rule : (a : Option Told) (b c taken : Bool) (x y z : Told) → option_or a (option_or (refuses_where b x) (option_or (refuses_where c y) (refuses_where taken z))) ≡ None → taken ≡ false
last_rule a b c false x y z e = refl
last_rule (Some f) b c true x y z e = absurd (grind (arith, e))
last_rule None true c true x y z e = absurd (grind (arith, e))
last_rule None false true true x y z e = absurd (grind (arith, e))
last_rule None false false true x y z e = absurd (grind (arith, e))

alone_own : (at : TurnContext) (p : Plain) (who : Option Who) (o : Outcome) (e : Effect) → refusal_alone p.registry (drawing at p) o e ≡ None → HasOwn p (change_alone at p.registry who o e)
alone_own at p who o (Submits c form) free = opened_own at p.registry o c form p.cases (last_rule (outcome_refusal o) (nat_le 4_294_967_295 p.numbering.last) (nat_le p.registry.settings.quota (drawing at p).today) (drawing at p).taken numbers_spent (quota_spent p.registry.settings.quota) receipt_taken free)
alone_own at p who o (Sets t proposal) free = set_is (HasOwn p) _ tt (λ x is. tt)
alone_own at p who o _ free = tt

on_own : (at : TurnContext) (p : Plain) (who : Who) (c : Case) (e : Effect) → HasOwn p (change_on at p.registry who c.number c.trail e)
on_own at p who c (Writes d) = doing_receipt p.registry.settings.calendar at.time who c.trail d
on_own at p who c _ = tt

judged_own : (p : Plain) (o : Option Told) (ch : Change) (a : Answer) → (o ≡ None → HasOwn p ch) → HasOwn p (change_of (judged o ch a))
judged_own p None ch a h = h refl
judged_own p (Some x) ch a h = tt

pub verdict_own : (p : Plain) (at : TurnContext) (q : Request) (t : Target) → HasOwn p (change_of (verdict_on p at q t))
verdict_own p at q (Nobody x) = tt
verdict_own p at q (Alone who) = judged_own p _ _ _ (λ free. alone_own at p who q.outcome (effect_at p at q who []) free)
verdict_own p at q (On who c) = judged_own p _ _ _ (λ free. on_own at p who c (effect_at p at q (Some who) c.trail))

-- ---- receipts

pub idle_unless : (t : ℕ) (b : Bool) (w : What) → b ≡ false → seen t (cond b w Idle) ≡ Idle
idle_unless t b w e = ap (λ x. seen t (cond x w Idle)) e

abbrev pub Receipts : Past Opened → Type 0
Receipts past = Apart has_receipt (live_reports past (now past))

pub later_receipts : (past : Past Opened) (time : ℕ) → now past ≤ time → Receipts past → Apart has_receipt (live_reports past time)
later_receipts past time le a = subst (Apart has_receipt) (live_twice (registry past).settings (now past) time le (map (case_of past) (numbers past))) (apart_filter has_receipt (is_live (registry past).settings time) (live_reports past (now past)) a)

noted_receipt : (n : ℕ) (e : Entry) → LeavesReceipt e → (d : Digest) (c : Case) → has_receipt d (noted n e c) ≡ has_receipt d c
noted_receipt n e leaves d c = by (eqb c.number n)
  where
    by : (b : Bool) → is_text (receipt (cond b (c.trail ++ e ∷ []) c.trail)) d.0 ≡ is_text (receipt c.trail) d.0
    by true = leaves d c.number c.trail
    by false = refl

apart_changed : (p : Plain) (ch : Change) (last : ℕ) → HasOwn p ch → Apart has_receipt p.cases → Apart has_receipt (cases_after ch last p.cases)
apart_changed p (Begins e) last own a = apart_push has_receipt p.cases (record { number = last + 1; trail = e ∷ [] }) a (λ d is. own d (last + 1) is)
apart_changed p (Notes n e) last own a = apart_map has_receipt (noted n e) p.cases (noted_receipt n e own) a
apart_changed p (Deletes n) last own a = apart_filter has_receipt _ p.cases a
apart_changed p _ last own a = a

pub receipts_request : (u : ℕ) (past : Past Opened) (f : Frame) → Receipts past → Receipts (Turn (event f (what_at u past f)) past)
receipts_request u past f a =
    let p : Plain = plain past (at_frame past f).time in
    subst (Apart has_receipt) (sym (ap (λ (t : Tables). t.plain.cases) (turn_tables u past f)))
    (apart_changed p (change_of (ruling (tables past (at_frame past f).time) (at_frame past f) f.asked)) (last past) (verdict_own p (at_frame past f) (plain_part p f.asked) (target_at past f)) (later_receipts past (at_frame past f).time (omega arith) a))

receipts_idle : (past : Past Opened) (f : Frame) → Receipts past → Receipts (Turn (event f Idle) past)
receipts_idle past f a = subst (Apart has_receipt) (sym (ap (λ (t : Tables). t.plain.cases) (idle_law past f))) (later_receipts past (at_frame past f).time (omega arith) a)

pub receipts_lost : (past : Past Opened) (f : Frame) → Receipts past → Receipts (Turn (event f Lost) past)
receipts_lost past f a = later_receipts past (at_frame past f).time (omega arith) a

pub receipts_seen : (t : ℕ) (past : Past AllOpened) (f : Frame) → Receipts (part t past) → Receipts (part t (with_turn past f))
receipts_seen t past f a = by (decide t (tenant_at f)) (truth (has_tenant past (tenant_at f)))
  where
    seeing : (w : What) → seen t (what_in past f) ≡ w → Receipts (Turn (event f w) (part t past)) → Receipts (part t (with_turn past f))
    seeing w e b = subst (λ x. Receipts (Turn (event f x) (part t past))) (sym e) b

    by : (t ≡ tenant_at f) ⊎ (t ≢ tenant_at f) → (has_tenant past (tenant_at f) ≡ true) ⊎ (has_tenant past (tenant_at f) ≡ false) → Receipts (part t (with_turn past f))
    by (inr away) has = seeing Idle (others_turn past f t away) (receipts_idle (part t past) f a)
    by (inl e) (inr has) = seeing Idle (idle_unless t (has_tenant past (tenant_at f)) (what_at (tenant_at f) (part (tenant_at f) past) f) has) (receipts_idle (part t past) f a)
    by (inl e) (inl has) = seeing (what_at t (part t past) f) (ap (λ v. seen v (what_in past f)) e ∙ (own_turn past f has ∙ ap (λ v. what_at v (part v past) f) (sym e))) (receipts_request t (part t past) f a)

receipts_asked : (t : ℕ) (past : Past AllOpened) (f : Frame) (loss : Loss) → Receipts (part t past) → Receipts (part t (play_asked past f loss).past)
receipts_asked t past f NotLost a = receipts_seen t past f a
receipts_asked t past f ByKeeper a = receipts_lost (part t past) f a
receipts_asked t past f ByMemory a = receipts_lost (part t past) f a
receipts_asked t past f (Unread close) a = a

-- a place keeps receipts apart
pub receipts_place : (t : ℕ) (past : Past AllOpened) (p : Place) → Receipts (part t past) → Receipts (part t (play past p).past)
receipts_place t past p a = by p.reading
  where
    by : (reading : Reading) → Receipts (part t (play_by past p reading).past)
    by (Asks asked) = receipts_asked t past (frame_of p asked) p.loss a
    by (Refuses fault close) = a
