-- Steps of logins and logouts, of settings, of identity answers that are given and shown, and of commands without answers.
use Rattle.std.proofs.Common.{◌≡◌, inl, inr, ℕ, ◌≤◌, Bool, true, false, cond, List, [], ◌∷◌, length, map, Option, Some, None, refl, sym, ap, ◌∙◌, subst}
use Rattle.std.specs.Prelude.{filter, if◌then◌else◌, is_some, not, unwrap_or}
use Rattle.std.specs.Option.{option_map_or}
use Rattle.wb_base.specs.AnswerFaults.{identity_fault}
use Rattle.wb_base.specs.AnswerList.{Answered}
use Rattle.wb_base.specs.Calendars.{Calendar}
use Rattle.wb_base.specs.declared.callers.Presented.{Presented}
use Rattle.wb_base.specs.declared.callers.Presented.TheVariants as presented
use Rattle.wb_base.specs.declared.callers.Role.{Role}
use Rattle.wb_base.specs.declared.callers.Role.TheVariants as roles
use Rattle.wb_base.specs.declared.faults.AnswerFault.{AnswerFault}
use Rattle.wb_custody.specs.SealedAnswers.{answers_of}
use Rattle.wb_custody.specs.declared.sealed.SealedItem.{SealedItem}
use Rattle.wb_model.specs.declared.act.Act.TheVariants as acts
use Rattle.wb_model.specs.declared.body.Told.{Told}
use Rattle.wb_model.specs.declared.command.Asked.{Asked}
use Rattle.wb_model.specs.declared.command.Command.{Command}
use Rattle.wb_model.specs.declared.command.Command.TheVariants as commands
use Rattle.wb_model.specs.declared.entry.Actor.TheVariants as actors
use Rattle.wb_model.specs.declared.entry.Entry.{Entry}
use Rattle.wb_model.specs.declared.registry.FormItem.{FormItem}
use Rattle.wb_model.specs.declared.registry.UserItem.{UserItem}
use Rattle.wb_model.specs.Access.{requests, in_force}
use Rattle.wb_model.specs.Changes.{TurnContext, Verdict, Refused, Accepted, Nothing, Deletes, LogsIn, LogsOut, Says, Shows_own, Shows_identity, judged}
use Rattle.wb_model.specs.Commands.{need, effect_of}
use Rattle.wb_model.specs.Doings.{Acts, actor_of, doing_entry, doing_told}
use Rattle.wb_model.specs.Faults.{case_told}
use Rattle.wb_model.specs.Effects.{Effect, Misses, Writes, Comes, Goes, Sets, goes}
use Rattle.wb_model.specs.Host.{Sealed, Tables, purged}
use Rattle.wb_model.specs.Json.{told}
use Rattle.wb_model.specs.Logins.{new_session, welcome}
use Rattle.wb_model.specs.Past.{named}
use Rattle.wb_model.specs.Refusals.{not_found, faulty}
use Rattle.wb_model.specs.Refusing.{refuses_where}
use Rattle.wb_model.specs.Requests.{Outcome, Unchecked, outline, outcome, identity_outcome, late_fault, sealed_part, secret_of}
use Rattle.wb_model.specs.AskingForms.{form_of_trail}
use Rattle.wb_model.specs.Rules.{refusal_alone, change_alone, answer_alone}
use Rattle.wb_model.specs.Settings.{Proposal, proposal_told}
use Rattle.wb_model.specs.ShortViews.{done_view}
use Rattle.wb_model.specs.Submissions.{drawing, outcome_refusal}
use Rattle.wb_model.specs.Tables.{Registry, Plain, Case, Session, Who, TheUser, TheReporter, disablings, has_number, is_live, is_there, report, user}
use Rattle.wb_model.specs.Targets.{Target, Alone, On}
use Rattle.wb_model.specs.Trails as trails
use Rattle.wb_model.specs.Views.{reporter_view, identity_view}
use Rattle.wb_tables.specs.Indexed.{AreFewRequests}
use Rattle.wb_tables.specs.Configured.{row_of}
use Rattle.wb_tables.specs.Kept.{PlainTenancy, live_plain, place_of, plain_of, tables_of}
use Rattle.wb_tables.specs.Lives.{case_of}
use Rattle.wb_tables.specs.Logins.{AreEarlier, session_of, who_seen}
use Rattle.wb_tables.specs.declared.tenancy.Report.{Report}
use Rattle.wb_tables.specs.declared.tenancy.Tenancy.{Tenancy as KeptTenancy}
use Rattle.wb_tables.specs.declared.tenancy.Who.{Who as KeptWho}
use Rattle.wb_tables.specs.declared.tenancy.Who.TheVariants as kept
use Rattle.wb_model.proofs.Found.{find_held, held_filter}
use Rattle.wb_model.specs.Opened.{Apart}
use Rattle.wb_tables.proofs.Lookups.{find_kept, there-found, kept as kept_by}
use Rattle.wb_commands.specs.Plans.{HasRoomFor, IsDraw, IsFit, IsFitAtOnce, IsReady, IsRoomyFor, IsLogin, IsPlan, PlansSubmission, GivesSecret, change_of}
use Rattle.wb_commands.specs.declared.draft.Asks.{Asks}
use Rattle.wb_commands.specs.declared.draft.Asks.TheVariants as asked
use Rattle.wb_commands.specs.Steps.{Alike, Answers, Enters, EntersAs, GivesBy, GivesIdentity, GivesUnder, IsErased, IsFitStep, IsNote, IsProposed, IsSoundDoing, IsDraftOf, IsTold, IsWriting, Leaves, WritesDown, WritesIn, doing_of}
use Rattle.wb_commands.specs.declared.plan.TurnPlan.{TurnPlan}
use Rattle.wb_commands.specs.declared.mutation.Mutation.{Mutation}
use Rattle.wb_commands.specs.declared.mutation.Mutation.TheVariants as planned
use Rattle.wb_commands.specs.declared.draft.Doing.TheVariants as doings
use Rattle.wb_commands.specs.declared.draft.Writing.{Writing}
use Rattle.wb_commands.specs.declared.draft.Draft.{Draft}
use Rattle.wb_commands.specs.declared.draft.Draft.TheVariants as steps
use Rattle.wb_desk.proofs.Drafts.{IsUnanswered, alike_self, answered_step, refused_step, verdict_at, verdict_by}
use Rattle.wb_commands.proofs.Plans.{refused_plan}

-- ---- commands without answers

pub unanswered : (g : Registry) (trail : List Entry) (a : Asked) (c : Command) → a.command ≡ c → outline c ≡ c → outcome g trail c ≡ Unchecked → secret_of g c ≡ None → IsUnanswered g trail a
unanswered g trail a c e o u s = record {
  outline_is = ap outline e ∙ (o ∙ sym e);
  outcome_is = ap (outcome g trail) e ∙ u;
  secret_is = ap (secret_of g) e ∙ s;
}

named_unanswered : (g : Registry) (trail : List Entry) (c : Command) → is_some (named (need c)) ≡ true → (outline c ≡ c) × (outcome g trail c ≡ Unchecked) × (secret_of g c ≡ None)
named_unanswered g trail (commands.Submit t id answers) e = absurd cc
named_unanswered g trail (commands.GiveIdentity t answers) e = absurd cc
named_unanswered g trail _ e = (refl, refl, refl)

pub names_unanswered : (g : Registry) (trail : List Entry) (a : Asked) → is_some (named (need a.command)) ≡ true → IsUnanswered g trail a
names_unanswered g trail a e = let is = named_unanswered g trail a.command e in unanswered g trail a a.command refl is.0 is.1 is.2

-- ---- identity answers that stand

pub sealed_there : (time : ℕ) (items : List SealedItem) (x : PlainTenancy) (n : ℕ) (case : Case) → report n (live_plain time x.plain).cases ≡ Some case → (purged time (tables_of items x)).sealed n ≡ answers_of items x.id n
sealed_there time items x n case there = (let is : is_there n (live_plain time x.plain).cases ≡ true = there-found n (live_plain time x.plain).cases ∙ ap is_some there in rw is refl)

-- what a reporter is shown of the own report
pub own_step : (id : ℕ) (t : Tables) (at : TurnContext) (a : Asked) (who : Who) (case : Case) (sealed : Option Answered) (tenant : ℕ) (r : Told) (step : Draft) → a.command ≡ commands.OwnReport tenant → t.sealed case.number ≡ sealed → r ≡ told 200 (reporter_view case sealed) → IsTold r step → IsDraftOf id t at a (On who case) step
own_step id t at a who case sealed tenant r step e s is done =
    answered_step id t at a (On who case) (Shows_own case) r step
    (ap (λ c. verdict_by t.plain at who case (outcome t.plain.registry case.trail c) (effect_of at t.plain.registry (Some who) a.session case.trail (outline c))) e)
    (ap (λ o. told 200 (reporter_view case o)) s ∙ sym is) done

-- what a user is shown of an identity
identity_by : (id : ℕ) (t : Tables) (at : TurnContext) (a : Asked) (who : Who) (case : Case) (r : Told) (step : Draft) (b : Bool) → verdict_at t.plain at a (On who case) ≡ judged (refuses_where (not b) not_found) Nothing (Shows_identity case.number)
    → r ≡ cond b (told 200 (identity_view case.number (unwrap_or (t.sealed case.number) []))) not_found → IsTold r step → IsDraftOf id t at a (On who case) step
identity_by id t at a who case r step true v is done = answered_step id t at a (On who case) (Shows_identity case.number) r step v (sym is) done
identity_by id t at a who case r step false v is done = refused_step id t at a (On who case) r step (v ∙ ap Refused (sym is)) done

pub identity_step : (id : ℕ) (t : Tables) (at : TurnContext) (a : Asked) (u : ℕ) (case : Case) (sealed : Option Answered) (tenant n : ℕ) (r : Told) (step : Draft) → a.command ≡ commands.ReadIdentity tenant n → t.sealed case.number ≡ sealed
    → r ≡ cond (in_force u (disablings u t.plain.registry.users) at.time case.trail) (told 200 (identity_view case.number (unwrap_or sealed []))) not_found → IsTold r step → IsDraftOf id t at a (On (TheUser u) case) step
identity_step id t at a u case sealed tenant n r step e s is done =
    identity_by id t at a (TheUser u) case r step (in_force u (disablings u t.plain.registry.users) at.time case.trail)
    (ap (λ c. verdict_by t.plain at (TheUser u) case (outcome t.plain.registry case.trail c) (effect_of at t.plain.registry (Some (TheUser u)) a.session case.trail (outline c))) e)
    (is ∙ ap (λ o. cond (in_force u (disablings u t.plain.registry.users) at.time case.trail) (told 200 (identity_view case.number (unwrap_or o []))) not_found) (sym s)) done

-- ---- identity answers that are given

-- the verdict on them by the form of the report
given_verdict : (p : Plain) (at : TurnContext) (a : Asked) (r : Report) (tenant : ℕ) (answers : Answered) (o : Option FormItem) → a.command ≡ commands.GiveIdentity tenant answers → form_of_trail r.case.items p.registry.forms ≡ o
    → verdict_at p at a (On (TheReporter r.number) (case_of r)) ≡ verdict_by p at (TheReporter r.number) (case_of r) (identity_outcome o r.case.items answers) (option_map_or (λ form. Writes (Acts acts.Identity)) o Misses)
given_verdict p at a r tenant answers o e f =
    ap (λ c. verdict_by p at (TheReporter r.number) (case_of r) (outcome p.registry r.case.items c) (effect_of at p.registry (Some (TheReporter r.number)) a.session r.case.items (outline c))) e
    ∙ ap (λ x. verdict_by p at (TheReporter r.number) (case_of r) (identity_outcome x r.case.items answers) (option_map_or (λ form. Writes (Acts acts.Identity)) x Misses)) f

faulted : (p : Plain) (at : TurnContext) (r : Report) (answers : Answered) (item : FormItem) (fault : AnswerFault) → identity_fault item.form (trails.answers r.case.items) answers ≡ Some fault
    → verdict_by p at (TheReporter r.number) (case_of r) (identity_outcome (Some item) r.case.items answers) (Writes (Acts acts.Identity)) ≡ Refused (faulty fault)
unfolding late_fault
faulted p at r answers item fault e = rw e refl

right : (r : Report) (answers : Answered) (item : FormItem) → identity_fault item.form (trails.answers r.case.items) answers ≡ None → outcome_refusal (identity_outcome (Some item) r.case.items answers) ≡ None
unfolding late_fault
right r answers item e = rw e refl

written_identity : (id : ℕ) (t : Tables) (at : TurnContext) (a : Asked) (r : Report) (tenant : ℕ) (answers : Answered) (item : FormItem) (step : Draft) → a.command ≡ commands.GiveIdentity tenant answers → report r.number t.plain.cases ≡ Some (case_of r) → form_of_trail r.case.items t.plain.registry.forms ≡ Some item
    → identity_fault item.form (trails.answers r.case.items) answers ≡ None → WritesDown (kept.Reporter r.number) r (doings.Acts acts.Identity) (Some answers) (told 200 done_view) step → IsDraftOf id t at a (On (TheReporter r.number) (case_of r)) step
written_identity id t at a r tenant answers item (steps.Done plan) e there f none w = absurd w
written_identity id t at a r tenant answers item (steps.Sets x) e there f none w = absurd w
written_identity id t at a r tenant answers item (steps.Writes w) e there f none is = record {
  case = case_of r;
  on = ap (λ x. On (who_seen x) (case_of r)) (sym is.who_is);
  number = sym is.number_is;
  there = ap (λ n. report n t.plain.cases) is.number_is ∙ there;
  does = Acts acts.Identity;
  effect = ap (λ x. effect_of at t.plain.registry (Some (who_seen x)) a.session r.case.items (outline a.command)) is.who_is
      ∙ (ap (λ c. effect_of at t.plain.registry (Some (TheReporter r.number)) a.session r.case.items (outline c)) e
      ∙ ap (λ o. option_map_or (λ form. Writes (Acts acts.Identity)) o Misses) f);
  alike = subst (λ x. Alike r.case.items (Acts acts.Identity) (doing_of x)) (sym is.doing_is) (alike_self r.case.items (Acts acts.Identity));
  checked = ap (λ c. outcome_refusal (outcome t.plain.registry r.case.items c)) e ∙ (ap (λ o. outcome_refusal (identity_outcome o r.case.items answers)) f ∙ right r answers item none);
  given = is.given_is ∙ sym (ap (secret_of t.plain.registry) e);
  told = is.told_is;
  sound = subst (λ x. IsSoundDoing (actor_of (who_seen x)) w.doing) (sym is.who_is) (subst (IsSoundDoing actors.Reporter) (sym is.doing_is) ((λ trail early. tt), λ calendar trail. refl));
}

pub given_step : (id : ℕ) (t : Tables) (at : TurnContext) (a : Asked) (r : Report) (tenant : ℕ) (answers : Answered) (step : Draft) → a.command ≡ commands.GiveIdentity tenant answers → report r.number t.plain.cases ≡ Some (case_of r) → GivesIdentity t.plain.registry r answers step
    → IsDraftOf id t at a (On (TheReporter r.number) (case_of r)) step
given_step id t at a r tenant answers step e there gives = under (form_of_trail r.case.items t.plain.registry.forms) refl gives
  where
    by : (item : FormItem) → form_of_trail r.case.items t.plain.registry.forms ≡ Some item → (fault : Option AnswerFault) → identity_fault item.form (trails.answers r.case.items) answers ≡ fault → GivesBy fault r answers step → IsDraftOf id t at a (On (TheReporter r.number) (case_of r)) step
    by item f (Some fault) is g = refused_step id t at a (On (TheReporter r.number) (case_of r)) (faulty fault) step (given_verdict t.plain at a r tenant answers (Some item) e f ∙ faulted t.plain at r answers item fault is) g
    by item f None is g = written_identity id t at a r tenant answers item step e there f is g

    under : (o : Option FormItem) → form_of_trail r.case.items t.plain.registry.forms ≡ o → GivesUnder o r answers step → IsDraftOf id t at a (On (TheReporter r.number) (case_of r)) step
    under None f g = refused_step id t at a (On (TheReporter r.number) (case_of r)) not_found step (given_verdict t.plain at a r tenant answers None e f) g
    under (Some item) f g = by item f (identity_fault item.form (trails.answers r.case.items) answers) refl g

-- ---- a report that goes

erase_plan : (id : ℕ) (g : Registry) (sealed : Sealed) (v : Verdict) (secret : Option Answered) (n : ℕ) (r : Told) (plan : TurnPlan) → v ≡ Accepted (Deletes n) (Says r) → plan.told ≡ r → plan.change ≡ planned.Deletes n → IsPlan id g sealed v secret plan
erase_plan id g sealed v secret n r plan e t is = subst (λ w. IsPlan id g sealed w secret plan) (sym e) (record {
  reply = sym t;
  change = sym (ap (change_of id g) is);
  given = subst (λ c. GivesSecret c secret) (sym is) tt;
})

pub erased_step : (id : ℕ) (t : Tables) (at : TurnContext) (a : Asked) (who : Who) (r : Report) (tenant n : ℕ) (step : Draft) → a.command ≡ commands.Delete tenant n → IsErased r step → IsDraftOf id t at a (On who (case_of r)) step
erased_step id t at a who r tenant n (steps.Done plan) e is =
    erase_plan id t.plain.registry t.sealed (verdict_at t.plain at a (On who (case_of r))) (sealed_part t.plain a) r.number (told 200 done_view) plan
    (ap (λ c. verdict_by t.plain at who (case_of r) (outcome t.plain.registry r.case.items c) (effect_of at t.plain.registry (Some who) a.session r.case.items (outline c))) e) is.0 is.1
erased_step id t at a who r tenant n (steps.Writes w) e is = absurd is
erased_step id t at a who r tenant n (steps.Sets s) e is = absurd is

pub erased_fit : (time : ℕ) (x : KeptTenancy) (r : Report) (step : Draft) → IsErased r step → IsFitStep time x step
erased_fit time x r (steps.Done plan) is = subst (IsFitAtOnce time x) (sym is.1) tt
erased_fit time x r (steps.Writes w) is = absurd is
erased_fit time x r (steps.Sets s) is = absurd is

-- ---- logins and logouts

login_plan : (id : ℕ) (g : Registry) (sealed : Sealed) (v : Verdict) (secret : Option Answered) (s : Session) (r : Told) (plan : TurnPlan) → v ≡ Accepted (LogsIn s) (Says r) → plan.told ≡ r → IsLogin plan.change s → IsPlan id g sealed v secret plan
login_plan id g sealed v secret s r plan e t is = subst (λ w. IsPlan id g sealed w secret plan) (sym e) (record {
  reply = sym t;
  change = sym (change plan.change is);
  given = gives plan.change is;
})
  where
    change : (c : Mutation) → IsLogin c s → change_of id g c ≡ LogsIn s
    change (planned.LogsIn l) e = ap LogsIn e
    change _ e = absurd e

    gives : (c : Mutation) → IsLogin c s → GivesSecret c secret
    gives (planned.LogsIn l) e = tt
    gives _ e = absurd e

enters_step : (id : ℕ) (t : Tables) (at : TurnContext) (a : Asked) (to : Target) (role : Role) (who : Who) (step : Draft) → verdict_at t.plain at a to ≡ Accepted (LogsIn (new_session at t.plain.registry role who)) (Says (welcome at role)) → Enters at t.plain.registry role who step → IsDraftOf id t at a to step
enters_step id t at a to role who (steps.Done plan) v is = login_plan id t.plain.registry t.sealed (verdict_at t.plain at a to) (sealed_part t.plain a) (new_session at t.plain.registry role who) (welcome at role) plan v is.0 is.1
enters_step id t at a to role who (steps.Writes w) v is = absurd is
enters_step id t at a to role who (steps.Sets s) v is = absurd is

-- of a reporter
pub return_step : (id : ℕ) (t : Tables) (at : TurnContext) (a : Asked) (case : Case) (tenant : ℕ) (receipt : List ℕ) (step : Draft) → a.command ≡ commands.ReceiptLogin tenant receipt → Enters at t.plain.registry roles.Reporter (TheReporter case.number) step → IsDraftOf id t at a (On (TheReporter case.number) case) step
return_step id t at a case tenant receipt step e is = enters_step id t at a (On (TheReporter case.number) case) roles.Reporter (TheReporter case.number) step
    (ap (λ c. verdict_by t.plain at (TheReporter case.number) case (outcome t.plain.registry case.trail c) (effect_of at t.plain.registry (Some (TheReporter case.number)) a.session case.trail (outline c))) e) is

-- the verdict on a request on no report, by what it does
abbrev pub alone_by : Plain → TurnContext → Option Who → Outcome → Effect → Verdict
alone_by p at who o e = judged (refusal_alone p.registry (drawing at p) o e) (change_alone at p.registry who o e) (answer_alone at p who e)

-- of a user
abbrev on_user : Plain → TurnContext → ℕ → Option UserItem → Verdict
on_user p at u o = alone_by p at (Some (TheUser u)) Unchecked (option_map_or (λ (x : UserItem). Comes x.role) o Misses)

pub entry_step : (id : ℕ) (t : Tables) (at : TurnContext) (a : Asked) (u tenant : ℕ) (name password : List ℕ) (step : Draft) → a.command ≡ commands.Login tenant name password → EntersAs at t.plain.registry u (user u t.plain.registry.users) step → IsDraftOf id t at a (Alone (Some (TheUser u))) step
entry_step id t at a u tenant name password step e is = by (user u t.plain.registry.users) refl is
  where
    verdict : (o : Option UserItem) → user u t.plain.registry.users ≡ o → verdict_at t.plain at a (Alone (Some (TheUser u))) ≡ on_user t.plain at u o
    verdict o f = ap (λ c. alone_by t.plain at (Some (TheUser u)) (outcome t.plain.registry [] c) (effect_of at t.plain.registry (Some (TheUser u)) a.session [] (outline c))) e ∙ ap (on_user t.plain at u) f

    by : (o : Option UserItem) → user u t.plain.registry.users ≡ o → EntersAs at t.plain.registry u o step → IsDraftOf id t at a (Alone (Some (TheUser u))) step
    by None f g = refused_step id t at a (Alone (Some (TheUser u))) not_found step (verdict None f) g
    by (Some item) f g = enters_step id t at a (Alone (Some (TheUser u))) item.role (TheUser u) step (verdict (Some item) f) g

leave_plan : (id : ℕ) (g : Registry) (sealed : Sealed) (v : Verdict) (secret : Option Answered) (turn : ℕ) (who : KeptWho) (r : Told) (plan : TurnPlan) → v ≡ Accepted (LogsOut turn (who_seen who)) (Says r) → plan.told ≡ r → plan.change ≡ planned.LogsOut turn who → IsPlan id g sealed v secret plan
leave_plan id g sealed v secret turn who r plan e t is = subst (λ w. IsPlan id g sealed w secret plan) (sym e) (record {
  reply = sym t;
  change = sym (ap (change_of id g) is);
  given = subst (λ c. GivesSecret c secret) (sym is) tt;
})

-- the verdict on a logout
abbrev pub leaving : Effect → Who → Verdict
leaving (Goes turn) who = Accepted (LogsOut turn who) (Says (told 200 done_view))
leaving Misses who = Refused not_found
leaving _ who = Refused not_found

leaves_step : (id : ℕ) (t : Tables) (at : TurnContext) (a : Asked) (to : Target) (who : KeptWho) (s : Presented) (step : Draft) → verdict_at t.plain at a to ≡ leaving (goes s) (who_seen who) → Leaves s who step → IsDraftOf id t at a to step
leaves_step id t at a to who (presented.Token turn secret) (steps.Done plan) v is = leave_plan id t.plain.registry t.sealed (verdict_at t.plain at a to) (sealed_part t.plain a) turn who (told 200 done_view) plan v is.0 is.1
leaves_step id t at a to who (presented.Token turn secret) (steps.Writes w) v is = absurd is
leaves_step id t at a to who (presented.Token turn secret) (steps.Sets s) v is = absurd is
leaves_step id t at a to who presented.None step v is = refused_step id t at a to not_found step v is
leaves_step id t at a to who presented.Bad step v is = refused_step id t at a to not_found step v is

-- of a reporter
leaving_on : (p : Plain) (at : TurnContext) (r : Report) (s : Presented) → verdict_by p at (TheReporter r.number) (case_of r) Unchecked (goes s) ≡ leaving (goes s) (TheReporter r.number)
leaving_on p at r (presented.Token turn secret) = refl
leaving_on p at r presented.None = refl
leaving_on p at r presented.Bad = refl

pub leave_on_step : (id : ℕ) (t : Tables) (at : TurnContext) (a : Asked) (r : Report) (tenant : ℕ) (step : Draft) → a.command ≡ commands.Logout tenant → Leaves a.session (kept.Reporter r.number) step → IsDraftOf id t at a (On (TheReporter r.number) (case_of r)) step
leave_on_step id t at a r tenant step e is = leaves_step id t at a (On (TheReporter r.number) (case_of r)) (kept.Reporter r.number) a.session step
    (ap (λ c. verdict_by t.plain at (TheReporter r.number) (case_of r) (outcome t.plain.registry r.case.items c) (effect_of at t.plain.registry (Some (TheReporter r.number)) a.session r.case.items (outline c))) e ∙ leaving_on t.plain at r a.session) is

-- of a user
leaving_alone : (p : Plain) (at : TurnContext) (u : ℕ) (s : Presented) → alone_by p at (Some (TheUser u)) Unchecked (goes s) ≡ leaving (goes s) (TheUser u)
leaving_alone p at u (presented.Token turn secret) = refl
leaving_alone p at u presented.None = refl
leaving_alone p at u presented.Bad = refl

pub leave_alone_step : (id : ℕ) (t : Tables) (at : TurnContext) (a : Asked) (u tenant : ℕ) (step : Draft) → a.command ≡ commands.Logout tenant → Leaves a.session (kept.User u) step → IsDraftOf id t at a (Alone (Some (TheUser u))) step
leave_alone_step id t at a u tenant step e is = leaves_step id t at a (Alone (Some (TheUser u))) (kept.User u) a.session step
    (ap (λ c. alone_by t.plain at (Some (TheUser u)) (outcome t.plain.registry [] c) (effect_of at t.plain.registry (Some (TheUser u)) a.session [] (outline c))) e ∙ leaving_alone t.plain at u a.session) is

-- ---- settings

pub proposed_step : (id : ℕ) (t : Tables) (at : TurnContext) (a : Asked) (u : ℕ) (c : Command) (next : Proposal) (step : Draft) → a.command ≡ c → outline c ≡ c → effect_of at t.plain.registry (Some (TheUser u)) a.session [] c ≡ Sets id next → IsProposed t.plain.registry next step → IsDraftOf id t at a (Alone (Some (TheUser u))) step
proposed_step id t at a u c next (steps.Done plan) e o f is =
    refused_plan id t.plain.registry t.sealed (verdict_at t.plain at a (Alone (Some (TheUser u)))) (sealed_part t.plain a) plan.told plan
    (ap (alone_by t.plain at (Some (TheUser u)) (outcome t.plain.registry [] a.command)) effect
    ∙ ap (λ r. judged r (change_alone at t.plain.registry (Some (TheUser u)) (outcome t.plain.registry [] a.command) (Sets id next)) (Says (proposal_told t.plain.registry next))) is.0) refl is.1
  where
    effect : effect_of at t.plain.registry (Some (TheUser u)) a.session [] (outline a.command) ≡ Sets id next
    effect = ap (λ x. effect_of at t.plain.registry (Some (TheUser u)) a.session [] (outline x)) e ∙ (ap (effect_of at t.plain.registry (Some (TheUser u)) a.session []) o ∙ f)
proposed_step id t at a u c next (steps.Sets s) e o f is = record {
  who = Some (TheUser u);
  alone = refl;
  effect = ap (λ x. effect_of at t.plain.registry (Some (TheUser u)) a.session [] (outline x)) e ∙ (ap (effect_of at t.plain.registry (Some (TheUser u)) a.session []) o ∙ (f ∙ ap (Sets id) (sym is.0)));
  told = is.2 ∙ ap (proposal_told t.plain.registry) (sym is.0);
  sound = is.1;
}
proposed_step id t at a u c next (steps.Writes w) e o f is = absurd is

-- ---- submissions

pub submit_plan : (id : ℕ) (p : Plain) (at : TurnContext) (a : Asked) (plan : TurnPlan) (t context : ℕ) (answers : Answered) → a.command ≡ commands.Submit t context answers → PlansSubmission id p at context answers plan
    → (sealed : Sealed) → IsPlan id p.registry sealed (verdict_at p at a (Alone None)) (sealed_part p a) plan
submit_plan id p at a plan t context answers e h = λ sealed.
    subst (λ c. IsPlan id p.registry sealed (alone_by p at None (outcome p.registry [] c) (effect_of at p.registry None a.session [] (outline c))) (secret_of p.registry c) plan) (sym e) (h None sealed)

-- ---- what is done is fit

pub told_fit : (time : ℕ) (x : KeptTenancy) (r : Told) (step : Draft) → IsTold r step → IsFitStep time x step
told_fit time x r (steps.Done plan) is = subst (IsFitAtOnce time x) (sym is.1) tt
told_fit time x r (steps.Writes w) is = tt
told_fit time x r (steps.Sets s) is = tt

pub answers_fit : (time : ℕ) (x : KeptTenancy) (who : KeptWho) (r : Report) (asks : Asks) (step : Draft) → Answers who r asks step → IsFitStep time x step
answers_fit time x who r asked.Misses step is = told_fit time x not_found step is
answers_fit time x who r (asked.Bars fault) step is = told_fit time x (case_told fault) step is
answers_fit time x who r (asked.Does doing) step is = by step is
  where
    by : (s : Draft) → WritesDown who r doing None (doing_told r.case.items (doing_of doing)) s → IsFitStep time x s
    by (steps.Writes w) h = tt
    by (steps.Done plan) h = absurd h
    by (steps.Sets y) h = absurd h

login_fit : (time : ℕ) (x : KeptTenancy) (turn : ℕ) (s : Session) (c : Mutation) → s.turn ≡ turn → AreEarlier turn (map session_of x.sessions.items) → IsLogin c s → IsFitAtOnce time x c
login_fit time x turn s (planned.LogsIn l) e all is = subst (λ n. AreEarlier n (map session_of x.sessions.items)) (sym (ap (λ (y : Session). y.turn) is ∙ e)) all
login_fit time x turn s _ e all is = absurd is

pub enters_fit : (time : ℕ) (x : KeptTenancy) (at : TurnContext) (g : Registry) (role : Role) (who : Who) (step : Draft) → AreEarlier at.turn (map session_of x.sessions.items) → Enters at g role who step → IsFitStep time x step
enters_fit time x at g role who (steps.Done plan) all is = login_fit time x at.turn (new_session at g role who) plan.change refl all is.1
enters_fit time x at g role who (steps.Writes w) all is = tt
enters_fit time x at g role who (steps.Sets s) all is = tt

pub entry_fit : (time : ℕ) (x : KeptTenancy) (at : TurnContext) (g : Registry) (u : ℕ) (o : Option UserItem) (step : Draft) → AreEarlier at.turn (map session_of x.sessions.items) → EntersAs at g u o step → IsFitStep time x step
entry_fit time x at g u None step all is = told_fit time x not_found step is
entry_fit time x at g u (Some item) step all is = enters_fit time x at g item.role (TheUser u) step all is

pub proposed_fit : (time : ℕ) (x : KeptTenancy) (g : Registry) (next : Proposal) (step : Draft) → IsProposed g next step → IsFitStep time x step
proposed_fit time x g next (steps.Done plan) is = subst (IsFitAtOnce time x) (sym is.1) tt
proposed_fit time x g next (steps.Sets s) is = tt
proposed_fit time x g next (steps.Writes w) is = absurd is

-- room that is made leaves what a change asks of a tenant
pub fit_kept : (time : ℕ) (x y : KeptTenancy) (c : Mutation) → place_of y ≡ place_of x → IsFit time x c → IsFit time y c
fit_kept time x y (planned.Begins o) e h = (subst (λ (z : PlainTenancy). IsDraw time z.plain o) (sym e) h.0, h.1, h.2, h.3)
fit_kept time x y (planned.Notes n) e h = subst (λ (z : PlainTenancy). is_there n.number (live_plain time z.plain).cases ≡ true) (sym e) h
fit_kept time x y (planned.LogsIn login) e h = subst (λ (z : PlainTenancy). AreEarlier login.turn z.plain.sessions) (sym e) h
fit_kept time x y (planned.Configures c) e h = subst (λ (z : PlainTenancy). c.row ≡ row_of z.id z.plain.registry c.proposal) (sym e) h
fit_kept time x y _ e h = tt

-- what is planned at once has all that it takes once its room is made
pub done_roomy : (time spare : ℕ) (x y : KeptTenancy) (c : Mutation) → place_of y ≡ place_of x → IsFitAtOnce time x c → (IsReady x c → HasRoomFor y spare c) → IsRoomyFor time y spare c
done_roomy time spare x y (planned.Notes n) e once room = absurd once
done_roomy time spare x y (planned.Configures c) e once room = absurd once
done_roomy time spare x y (planned.Begins o) e once room = record { fit = fit_kept time x y (planned.Begins o) e once; room = room tt }
done_roomy time spare x y (planned.LogsIn login) e once room = record { fit = fit_kept time x y (planned.LogsIn login) e once; room = room tt }
done_roomy time spare x y _ e once room = record { fit = tt; room = tt }

-- an entry comes to a report that is there
pub written_fit : (time : ℕ) (x : KeptTenancy) (calendar : Calendar) (trail : List Entry) (at : ℕ) (w : Writing) (plan : TurnPlan) → is_there w.number (live_plain time (plain_of x)).cases ≡ true → WritesIn calendar trail at w plan → IsFit time x plan.change
written_fit time x calendar trail at w plan there (inr is) = subst (IsFit time x) (sym is.0) tt
written_fit time x calendar trail at w plan there (inl is) = by plan.change is.2
  where
    by : (c : Mutation) → IsNote c w.number (doing_entry calendar at (who_seen w.who) trail (doing_of w.doing)) w.given → IsFit time x c
    by (planned.Notes n) e = ap (λ m. is_there m (live_plain time (plain_of x)).cases) e.0 ∙ there
    by _ e = absurd e

-- ---- lists

-- a report that is found among filtered ones is found among all
pub found_whole : (p : Case → Bool) (n : ℕ) (cs : List Case) (case : Case) → Apart has_number cs → report n (filter p cs) ≡ Some case → report n cs ≡ Some case
found_whole p n cs case apart e = by (report n cs) refl (sym (find_kept has_number n p cs apart) ∙ e)
  where
    on : (b : Bool) (d : Case) → (if b then Some d else None) ≡ Some case → Some d ≡ Some case
    on true d f = f
    on false d f = absurd cc

    by : (o : Option Case) → report n cs ≡ o → kept_by p o ≡ Some case → report n cs ≡ Some case
    by None f g = absurd cc
    by (Some d) f g = f ∙ on (p d) d g

pub few_there : (n : ℕ) (cs : List Case) (case : Case) → AreFewRequests cs → report n cs ≡ Some case → length (requests case.trail) ≤ 100
few_there n [] case all e = absurd cc
few_there n (c ∷ cs) case all e = by (λ f. few_there n cs case all.1 f) (has_number n c) e
  where
    by : (report n cs ≡ Some case → length (requests case.trail) ≤ 100) → (b : Bool) → cond b (Some c) (report n cs) ≡ Some case → length (requests case.trail) ≤ 100
    by later true f = (let same : c ≡ case = cc in subst (λ (y : Case). length (requests y.trail) ≤ 100) same all.0)
    by later false f = later f

pub few_filtered : (p : Case → Bool) (cs : List Case) → AreFewRequests cs → AreFewRequests (filter p cs)
few_filtered p [] all = tt
few_filtered p (c ∷ cs) all = by (few_filtered p cs all.1) (p c)
  where
    by : AreFewRequests (filter p cs) → (b : Bool) → AreFewRequests (cond b (c ∷ filter p cs) (filter p cs))
    by rest true = (all.0, rest)
    by rest false = rest

-- a report that is found among filtered ones passes
pub found_passes : (p : Case → Bool) (n : ℕ) (cs : List Case) (case : Case) → report n (filter p cs) ≡ Some case → p case ≡ true
found_passes p n cs case e = (held_filter p cs case (find_held (has_number n) (filter p cs) case e)).1

-- the report that is written on is there
pub writing_found : (x : KeptTenancy) (time : ℕ) (at : TurnContext) (a : Asked) (to : Target) (w : Writing) (h : IsWriting (live_plain time (plain_of x)) at a to w) → Apart has_number (plain_of x).cases → report w.number (plain_of x).cases ≡ Some (record { number = w.number; trail = h.case.trail })
writing_found x time at a to w h apart = found_whole (is_live x.configuration.registry.settings time) w.number (plain_of x).cases h.case apart h.there ∙ ap (λ (n : ℕ). Some (record { number = n; trail = h.case.trail })) h.number
