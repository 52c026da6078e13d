-- The reply of a turn that was made is no reply of one that is not: neither 503 nor 507, nor that of a host whose last turn is made.
use Rattle.std.specs.Prelude.{◌&&◌, ◌||◌}
use Rattle.std.proofs.lemmas.Bool.Decides.{nat_tests}
use Rattle.wb_base.specs.AnswerList.{is_text}
use Rattle.std.proofs.Common.{◌≡◌, ℕ, nat_eq, ◌∷◌, arith, Bool, true, false, cond, eqb, List, [], Option, Some, None, refl}
use Rattle.wb_model.specs.declared.act.Act.{Act}
use Rattle.wb_model.specs.declared.act.Act.TheVariants as acts
use Rattle.wb_model.specs.declared.act.Move.TheVariants as moves
use Rattle.wb_model.specs.declared.body.Told.{Told}
use Rattle.wb_model.specs.declared.entry.Entry.{Entry}
use Rattle.wb_model.specs.Acts.{act_status}
use Rattle.wb_model.specs.Changes.{TurnContext, Change, Answer, Says, Shows_own, Shows_identity, judged}
use Rattle.wb_model.specs.Commands.{need}
use Rattle.wb_model.specs.Doings.{Doing, Acts, Moves, doing_told}
use Rattle.wb_model.specs.Effects.{Effect, Misses, Looks, Reads as ReadsPart, ToReader, ToReporter, TheIdentity, Writes, Erases, Submits, Comes, Goes, Sets, View, OfHealth, OfTenant, OfContext, OfReports, OfDues, OfRequests, OfConfiguration}
use Rattle.wb_model.specs.Host.{Sealed, said, reply_by}
use Rattle.wb_model.specs.OnReports.{refusal_on, change_on, answer_on, read_by}
use Rattle.wb_model.specs.Opened.{Opened}
use Rattle.wb_model.specs.Playing.{is_loss}
use Rattle.wb_model.specs.Past.{Past, plain, tables}
use Rattle.wb_model.specs.PastTurns.{at_frame, target_at, reply_at}
use Rattle.wb_model.specs.Pasts.{AllOpened, part, has_tenant, reply_in}
use Rattle.wb_model.specs.Scripts.{Loss, NotLost, ByKeeper, ByMemory, Unread, play_asked}
use Rattle.wb_model.specs.Refusals.{turns_spent, is_turns_spent, keeper_failed, no_memory, not_found}
use Rattle.wb_model.specs.Requests.{Frame, Request, outline, plain_part}
use Rattle.wb_model.specs.Rules.{refusal_alone, change_alone, shown, answer_alone, effect_at, verdict_on}
use Rattle.wb_model.specs.Settings.{Proposal, ToTenant, ToUser, ToContext, ToForm, proposal_told}
use Rattle.wb_model.specs.Submissions.{drawing}
use Rattle.wb_model.specs.Tables.{Registry, Plain, Case, Who, TheUser, TheReporter}
use Rattle.wb_model.specs.Targets.{Target, Nobody, Alone, On}
use Rattle.wb_model.specs.Tenants.{healthy, tenant_at}
use Rattle.wb_model.proofs.TargetsServed.{Served, served_not_found, served_healthy, TargetServed, needed_served}
use Rattle.wb_model.proofs.RefusalsServed.{RefusalServed, alone_refused, on_refused}

abbrev pub AnswerServed : Answer → Type 0
AnswerServed (Says told) = Served told
AnswerServed _ = Unit {0}

pub shown_served : (at : TurnContext) (p : Plain) (who : Option Who) (view : View) → Served (shown at p who view)
shown_served at p who OfHealth = refl
shown_served at p who OfTenant = refl
shown_served at p who (OfContext c form) = refl
shown_served at p who OfReports = refl
shown_served at p who OfDues = refl
shown_served at p who OfRequests = refl
shown_served at p who OfConfiguration = refl

pub told_served : (g : Registry) (x : Proposal) → Served (proposal_told g x)
told_served g (ToTenant next) = refl
told_served g (ToUser u next) = refl
told_served g (ToContext c next) = refl
told_served g (ToForm f form) = refl

pub alone_answered : (at : TurnContext) (p : Plain) (who : Option Who) (does : Effect) → AnswerServed (answer_alone at p who does)
alone_answered at p who (Looks view) = shown_served at p who view
alone_answered at p who (Submits c form) = refl
alone_answered at p who (Comes role) = refl
alone_answered at p who (Goes turn) = refl
alone_answered at p who (Sets t proposal) = told_served p.registry proposal
alone_answered at p who Misses = served_not_found
alone_answered at p who (ReadsPart part) = served_not_found
alone_answered at p who (Writes doing) = served_not_found
alone_answered at p who Erases = served_not_found

pub read_served : (at : TurnContext) (g : Registry) (c : Case) (who : Who) → Served (read_by at g c who)
read_served at g c (TheUser u) = refl
read_served at g c (TheReporter n) = served_not_found

pub act_served : (act : Act) (body : List ℕ) → Served (record { status = act_status act; body = body })
act_served acts.Identity body = refl
act_served _ body = refl

pub doing_answered : (trail : List Entry) (d : Doing) → Served (doing_told trail d)
doing_answered trail (Acts act) = act_served act _
doing_answered trail (Moves (moves.Ask reason stamp)) = refl
doing_answered trail (Moves (moves.Grant request stamp notice_days reason withheld)) = refl
doing_answered trail (Moves (moves.Deny request stamp reason)) = refl
doing_answered trail (Moves (moves.Revoke request stamp reason)) = refl

pub on_answered : (at : TurnContext) (g : Registry) (who : Who) (c : Case) (does : Effect) → AnswerServed (answer_on at g who c does)
on_answered at g who c (ReadsPart ToReader) = read_served at g c who
on_answered at g who c (ReadsPart ToReporter) = tt
on_answered at g who c (ReadsPart TheIdentity) = tt
on_answered at g who c (Writes doing) = doing_answered c.trail doing
on_answered at g who c Erases = refl
on_answered at g who c (Comes role) = refl
on_answered at g who c (Goes turn) = refl
on_answered at g who c Misses = served_not_found
on_answered at g who c (Looks view) = served_not_found
on_answered at g who c (Submits x form) = served_not_found
on_answered at g who c (Sets t proposal) = served_not_found

pub said_served : (a : Answer) (sealed : Sealed) → AnswerServed a → Served (said a sealed)
said_served (Says told) sealed h = h
said_served (Shows_own c) sealed h = refl
said_served (Shows_identity n) sealed h = refl

pub judged_served : (o : Option Told) (change : Change) (a : Answer) (sealed : Sealed) → RefusalServed o → AnswerServed a → Served (reply_by (judged o change a) sealed)
judged_served None change a sealed x y = said_served a sealed y
judged_served (Some refusal) change a sealed x y = x

pub verdict_served : (p : Plain) (at : TurnContext) (q : Request) (t : Target) (sealed : Sealed) → TargetServed t → Served (reply_by (verdict_on p at q t) sealed)
verdict_served p at q (Nobody refusal) sealed h = h
verdict_served p at q (Alone who) sealed h =
    let does = effect_at p at q who [] in
    judged_served (refusal_alone p.registry (drawing at p) q.outcome does) (change_alone at p.registry who q.outcome does) (answer_alone at p who does) sealed (alone_refused p.registry (drawing at p) q.outcome does) (alone_answered at p who does)
verdict_served p at q (On who c) sealed h =
    let does = effect_at p at q (Some who) c.trail in
    judged_served (refusal_on at p.registry who c q.outcome does) (change_on at p.registry who c.number c.trail does) (answer_on at p.registry who c does) sealed (on_refused at p.registry who c q.outcome does) (on_answered at p.registry who c does)

pub reply_served : (past : Past Opened) (f : Frame) → Served (reply_at past f)
reply_served past f =
    let at : TurnContext = at_frame past f in
    let p : Plain = plain past at.time in
    verdict_served p at (plain_part p f.asked) (target_at past f) (tables past at.time).sealed (needed_served p f.asked.session (outline f.asked.command) (need (outline f.asked.command)))

-- the reply of a turn that was made
pub turn_served : (past : Past AllOpened) (f : Frame) → Served (reply_in past f)
turn_served past f = by (has_tenant past (tenant_at f)) (eqb (tenant_at f) 0)
  where
    by : (b d : Bool) → Served (cond b (reply_at (part (tenant_at f) past) f) (cond d healthy not_found))
    by true d = reply_served (part (tenant_at f) past) f
    by false true = served_healthy
    by false false = served_not_found

-- so it is not that of a host whose last turn is made
its_own_text : (s : List ℕ) → is_text s s ≡ true
its_own_text [] = refl
its_own_text (x ∷ xs) = by (nat_eq x x) refl (its_own_text xs)
  where
    by : (b : Bool) → nat_eq x x ≡ b → is_text xs xs ≡ true → (b && is_text xs xs) ≡ true
    by true is ih = ih
    by false is ih = absurd (grind (arith, nat_tests, is))

pub spent_is_told : is_turns_spent turns_spent ≡ true
unfolding turns_spent
spent_is_told = its_own_text turns_spent.body

not_spent : (told : Told) → Served told → is_turns_spent told ≡ false
not_spent told served = by (is_loss told.status) served
  where
    by : (b : Bool) → (b || is_turns_spent told) ≡ false → is_turns_spent told ≡ false
    by true e = absurd (grind (arith, e))
    by false e = e

pub none_spent : (past : Past AllOpened) (f : Frame) (loss : Loss) → is_turns_spent (play_asked past f loss).reply.told ≡ false
unfolding keeper_failed no_memory
none_spent past f NotLost = not_spent (reply_in past f) (turn_served past f)
none_spent past f ByKeeper = refl
none_spent past f ByMemory = refl
none_spent past f (Unread close) = refl
