-- What is left to do for a plan, and what it stands for.
use Rattle.std.specs.Prelude.{◌≡◌, ◌⊎◌, ℕ, Bool, true, false, List, [], Option, Some, None, option_map, map}
use Rattle.wb_base.specs.AnswerFaults.{identity_fault}
use Rattle.wb_base.specs.AnswerList.{Answered}
use Rattle.wb_base.specs.Calendars.{Calendar}
use Rattle.wb_base.specs.declared.callers.Presented.TheVariants as presented
use Rattle.wb_base.specs.declared.callers.Role.{Role}
use Rattle.wb_base.specs.declared.faults.AnswerFault.{AnswerFault}
use Rattle.wb_base.specs.declared.form.Form.{Form}
use Rattle.wb_case.specs.Plans.{IsInRange}
use Rattle.wb_model.specs.declared.act.Act.TheVariants as acts
use Rattle.wb_model.specs.declared.registry.FormItem.{FormItem}
use Rattle.wb_model.specs.declared.registry.UserItem.{UserItem}
use Rattle.wb_model.specs.declared.act.CaseFault.{CaseFault}
use Rattle.wb_model.specs.declared.command.Asked.{Asked}
use Rattle.wb_model.specs.declared.command.Command.{Command}
use Rattle.wb_model.specs.declared.command.Command.TheVariants as commands
use Rattle.wb_model.specs.declared.entry.Actor.{Actor}
use Rattle.wb_model.specs.declared.entry.Entry.{Entry}
use Rattle.wb_model.specs.declared.body.Told.{Told}
use Rattle.wb_base.specs.declared.callers.Presented.{Presented}
use Rattle.wb_model.specs.Acts.{case_fault, act_deed}
use Rattle.wb_model.specs.Changes.{TurnContext}
use Rattle.wb_model.specs.Doings as model
use Rattle.wb_model.specs.Doings.{doing_fault, doing_deed, doing_entry, doing_told, actor_of}
use Rattle.wb_model.specs.Faults.{case_told, admin_told}
use Rattle.wb_model.specs.Json.{told}
use Rattle.wb_model.specs.Logins.{new_session, welcome}
use Rattle.wb_model.specs.ShortViews.{done_view}
use Rattle.wb_model.specs.Trails as trails
use Rattle.wb_model.specs.Access.{user_by}
use Rattle.wb_model.specs.Effects as effects
use Rattle.wb_model.specs.Effects.{Effect}
use Rattle.wb_model.specs.Commands.{effect_of}
use Rattle.wb_model.specs.Host.{Sealed, Tables, purged}
use Rattle.wb_model.specs.Legal.{is_reporter, right_actor}
use Rattle.wb_model.specs.Refusals.{not_found, faulty}
use Rattle.wb_model.specs.Requests.{outline, outcome, sealed_part}
use Rattle.wb_model.specs.AskingForms.{form_of_trail}
use Rattle.wb_model.specs.Settings.{Proposal, proposal_told, proposal_refusal}
use Rattle.wb_model.specs.Submissions.{outcome_refusal}
use Rattle.wb_model.specs.Tables.{Registry, Plain, Case, Who, TheUser, report}
use Rattle.wb_model.specs.Targets.{Target, Alone, On, target}
use Rattle.wb_tables.specs.declared.tenancy.Tenancy.{Tenancy as KeptTenancy}
use Rattle.wb_tables.specs.declared.tenancy.Report.{Report}
use Rattle.wb_tables.specs.declared.tenancy.Who.{Who as KeptWho}
use Rattle.wb_tables.specs.declared.tenancy.Who.TheVariants as kept
use Rattle.wb_tables.specs.declared.proposal.Proposal.{Proposal as KeptProposal}
use Rattle.wb_tables.specs.declared.proposal.Proposal.TheVariants as proposals
use Rattle.wb_tables.specs.Configured.{IsSoundProposal, fault_of, proposal_of, row_of}
use Rattle.wb_tables.specs.Lives.{HasEarlyDays}
use Rattle.wb_tables.specs.Logins.{who_seen}
use Rattle.wb_tables.specs.Noted.{IsReadyNote}
use Rattle.wb_tables.specs.declared.turn_context.TurnContext.{TurnContext as KeptAt}
use Rattle.wb_commands.specs.declared.plan.TurnPlan.{TurnPlan}
use Rattle.wb_commands.specs.declared.mutation.Mutation.{Mutation}
use Rattle.wb_commands.specs.declared.mutation.Mutation.TheVariants as planned
use Rattle.wb_commands.specs.declared.draft.Asks.{Asks}
use Rattle.wb_commands.specs.declared.draft.Asks.TheVariants as asks
use Rattle.wb_commands.specs.declared.draft.Doing.{Doing}
use Rattle.wb_commands.specs.declared.draft.Doing.TheVariants as doings
use Rattle.wb_commands.specs.declared.draft.Judged.{Judged}
use Rattle.wb_commands.specs.declared.draft.Judged.TheVariants as judged
use Rattle.wb_commands.specs.declared.draft.Setting.{Setting}
use Rattle.wb_commands.specs.declared.draft.Draft.{Draft}
use Rattle.wb_commands.specs.declared.draft.Draft.TheVariants as steps
use Rattle.wb_commands.specs.declared.draft.Writing.{Writing}
use Rattle.wb_tables.specs.TurnContexts.{at_of}
use Rattle.wb_commands.specs.Plans.{PlansOn, IsFitAtOnce, IsLogin, tables_at}
use Rattle.wb_views.specs.Refused.{told_of}
use Rattle.wb_custody.specs.declared.sealed.SealedItem.{SealedItem}
use Rattle.wb_tables.specs.Kept.{tables_of, place_of, live_plain, plain_of, case_of}

-- ---- what is done on a report

abbrev pub doing_of : Doing → model.Doing
doing_of (doings.Acts act) = model.Acts act
doing_of (doings.Moves move) = model.Moves move

-- an act is in its ranges on any trail of early days, and by whom it may be; a move is a user's
abbrev pub IsSoundDoing : Actor → Doing → Type 0
IsSoundDoing by (doings.Acts act) = ((trail : List Entry) → HasEarlyDays trail → IsInRange trail act) × ((calendar : Calendar) (trail : List Entry) → right_actor (act_deed calendar trail act) by ≡ true)
IsSoundDoing by (doings.Moves move) = is_reporter by ≡ false

-- two doings are the same on a report of this trail
pub record Alike (trail : List Entry) (d e : model.Doing) : Type 0 where
  pub fault : (user : ℕ) → doing_fault trail user d ≡ doing_fault trail user e
  pub deed : (calendar : Calendar) (time : ℕ) → doing_deed calendar time trail d ≡ doing_deed calendar time trail e
  pub told : doing_told trail d ≡ doing_told trail e

-- the request writes that
abbrev pub DoesLike : List Entry → Effect → model.Doing → Type 0
DoesLike trail (effects.Writes d) e = Alike trail d e
DoesLike trail _ e = ⊥

-- an act that this fault refuses on a report of this trail
abbrev pub Bars : List Entry → CaseFault → Effect → Type 0
Bars trail fault (effects.Writes (model.Acts act)) = case_fault trail act ≡ Some fault
Bars trail fault _ = ⊥

-- the command, which has no answers, asks for that on a report of this trail
abbrev pub IsAskedOnReport : TurnContext → Registry → Option Who → Presented → List Entry → Command → Asks → Type 0
IsAskedOnReport at g who s trail command asks.Misses = effect_of at g who s trail command ≡ effects.Misses
IsAskedOnReport at g who s trail command (asks.Bars fault) = Bars trail fault (effect_of at g who s trail command)
IsAskedOnReport at g who s trail command (asks.Does doing) = DoesLike trail (effect_of at g who s trail command) (doing_of doing)

-- a user's command asks for that
abbrev pub IsAskedByUser : TurnContext → Registry → ℕ → Presented → List Entry → Command → Asks → Type 0
IsAskedByUser at g user s trail command ask = IsAskedOnReport at g (Some (TheUser user)) s trail command ask

abbrev pub IsSoundAsk : Actor → Asks → Type 0
IsSoundAsk by (asks.Does doing) = IsSoundDoing by doing
IsSoundAsk by asks.Misses = Unit {0}
IsSoundAsk by (asks.Bars fault) = Unit {0}

-- so many days are those that a context keeps its reports, or one where it keeps them for none
abbrev pub IsRetention : ℕ → ℕ → Type 0
IsRetention days kept = (days ≡ kept) ⊎ ((kept ≡ 0) × (days ≡ 1))

-- ---- steps

-- what is going to be written is what the request writes on the report that it is on, and the request's answers are right
pub record IsWriting (p : Plain) (at : TurnContext) (a : Asked) (to : Target) (w : Writing) : Type 0 where
  pub case : Case
  pub on : to ≡ On (who_seen w.who) case
  pub number : case.number ≡ w.number
  pub there : report w.number p.cases ≡ Some case
  pub does : model.Doing
  pub effect : effect_of at p.registry (Some (who_seen w.who)) a.session case.trail (outline a.command) ≡ effects.Writes does
  pub alike : Alike case.trail does (doing_of w.doing)
  pub checked : outcome_refusal (outcome p.registry case.trail a.command) ≡ None
  pub given : w.given ≡ sealed_part p a
  pub told : w.told ≡ doing_told case.trail does
  pub sound : IsSoundDoing (actor_of (who_seen w.who)) w.doing

-- what is going to be set is what the request sets of its tenant
pub record IsSetting (id : ℕ) (p : Plain) (at : TurnContext) (a : Asked) (to : Target) (s : Setting) : Type 0 where
  pub who : Option Who
  pub alone : to ≡ Alone who
  pub effect : effect_of at p.registry who a.session [] (outline a.command) ≡ effects.Sets id (proposal_of s.proposal)
  pub told : s.told ≡ proposal_told p.registry (proposal_of s.proposal)
  pub sound : IsSoundProposal s.proposal

abbrev pub IsDraftOf : ℕ → Tables → TurnContext → Asked → Target → Draft → Type 0
IsDraftOf id t at a to (steps.Done plan) = PlansOn id t at a to plan
IsDraftOf id t at a to (steps.Writes w) = IsWriting t.plain at a to w
IsDraftOf id t at a to (steps.Sets s) = IsSetting id t.plain at a to s

-- the step of a request to a tenant, whatever identity answers there are
abbrev pub StepsTo : KeptTenancy → KeptAt → Asked → Target → Draft → Type 0
StepsTo x at a to step = (sealed : Sealed) → IsDraftOf x.configuration.tenant (tables_at at.time x sealed) (at_of at) a to step

-- a plan that is done is fit
abbrev pub IsFitStep : ℕ → KeptTenancy → Draft → Type 0
IsFitStep time x (steps.Done plan) = IsFitAtOnce time x plan.change
IsFitStep time x (steps.Writes w) = Unit {0}
IsFitStep time x (steps.Sets s) = Unit {0}

-- it is done, and changes nothing
abbrev pub IsTold : Told → Draft → Type 0
IsTold told (steps.Done plan) = (plan.told ≡ told) × (plan.change ≡ planned.Nothing)
IsTold told (steps.Writes w) = ⊥
IsTold told (steps.Sets s) = ⊥

-- ---- steps by what was asked

-- an act of a reader
abbrev pub is_act : Command → Bool
is_act (commands.Comment t n text internal) = true
is_act (commands.Label t n label) = true
is_act (commands.SetStatus t n status) = true
is_act (commands.Acknowledge t n) = true
is_act (commands.Feedback t n text) = true
is_act (commands.Share t n user) = true
is_act (commands.Unshare t n u) = true
is_act (commands.Transfer t n context) = true
is_act (commands.Postpone t n) = true
is_act (commands.Extend t n reason) = true
is_act _ = false

-- the report goes
abbrev pub IsErased : Report → Draft → Type 0
IsErased report (steps.Done plan) = (plan.told ≡ told 200 done_view) × (plan.change ≡ planned.Deletes report.number)
IsErased report (steps.Writes w) = ⊥
IsErased report (steps.Sets s) = ⊥

-- this is going to be written on a report
pub record IsWritten (who : KeptWho) (report : Report) (doing : Doing) (given : Option Answered) (told : Told) (w : Writing) : Type 0 where
  pub who_is : w.who ≡ who
  pub number_is : w.number ≡ report.number
  pub doing_is : w.doing ≡ doing
  pub given_is : w.given ≡ given
  pub told_is : w.told ≡ told

abbrev pub WritesDown : KeptWho → Report → Doing → Option Answered → Told → Draft → Type 0
WritesDown who report doing given told (steps.Writes w) = IsWritten who report doing given told w
WritesDown who report doing given told (steps.Done plan) = ⊥
WritesDown who report doing given told (steps.Sets s) = ⊥

-- what is asked of a report is answered so
abbrev pub Answers : KeptWho → Report → Asks → Draft → Type 0
Answers who report asks.Misses step = IsTold not_found step
Answers who report (asks.Bars fault) step = IsTold (case_told fault) step
Answers who report (asks.Does doing) step = WritesDown who report doing None (doing_told report.case.items (doing_of doing)) step

-- the step of identity answers in which the form finds this fault, or none
abbrev pub GivesBy : Option AnswerFault → Report → Answered → Draft → Type 0
GivesBy (Some fault) report answers step = IsTold (faulty fault) step
GivesBy None report answers step = WritesDown (kept.Reporter report.number) report (doings.Acts acts.Identity) (Some answers) (told 200 done_view) step

-- after the public answers of the report
abbrev pub GivesAfter : Form → Report → Answered → Draft → Type 0
GivesAfter form report answers step = GivesBy (identity_fault form (trails.answers report.case.items) answers) report answers step

-- where the form in which the report was made is there
abbrev pub GivesUnder : Option FormItem → Report → Answered → Draft → Type 0
GivesUnder None report answers step = IsTold not_found step
GivesUnder (Some item) report answers step = GivesAfter item.form report answers step

abbrev pub GivesIdentity : Registry → Report → Answered → Draft → Type 0
GivesIdentity g report answers step = GivesUnder (form_of_trail report.case.items g.forms) report answers step

-- a session of this caller begins in a role
abbrev pub Enters : TurnContext → Registry → Role → Who → Draft → Type 0
Enters at g role who (steps.Done plan) = (plan.told ≡ welcome at role) × IsLogin plan.change (new_session at g role who)
Enters at g role who (steps.Writes w) = ⊥
Enters at g role who (steps.Sets s) = ⊥

-- the session of a user begins in the user's role, where the user is there
abbrev pub EntersAs : TurnContext → Registry → ℕ → Option UserItem → Draft → Type 0
EntersAs at g u None step = IsTold not_found step
EntersAs at g u (Some item) step = Enters at g item.role (TheUser u) step

-- the session that is presented ends
abbrev pub Leaves : Presented → KeptWho → Draft → Type 0
Leaves (presented.Token turn secret) who (steps.Done plan) = (plan.told ≡ told 200 done_view) × (plan.change ≡ planned.LogsOut turn who)
Leaves presented.None who step = IsTold not_found step
Leaves presented.Bad who step = IsTold not_found step
Leaves _ who _ = ⊥

-- what an administrator asks to set is refused, or is going to be set
abbrev pub IsProposed : Registry → Proposal → Draft → Type 0
IsProposed g proposal (steps.Done plan) = (proposal_refusal g proposal ≡ Some plan.told) × (plan.change ≡ planned.Nothing)
IsProposed g proposal (steps.Sets s) = (proposal_of s.proposal ≡ proposal) × IsSoundProposal s.proposal × (s.told ≡ proposal_told g proposal)
IsProposed g proposal (steps.Writes w) = ⊥

-- ---- the rules of the report

-- the entry of what is done, or what refuses it
abbrev pub IsJudged : Calendar → List Entry → ℕ → Who → Doing → Judged → Type 0
IsJudged calendar trail time who doing (judged.Noted entry) = (doing_fault trail (user_by (actor_of who)) (doing_of doing) ≡ None) × (entry ≡ doing_entry calendar time who trail (doing_of doing))
IsJudged calendar trail time who doing (judged.Barred why) = doing_fault trail (user_by (actor_of who)) (doing_of doing) ≡ Some (told_of why)

-- there is room for the entry on its report
abbrev pub IsReadyFor : ℕ → List Report → Judged → Type 0
IsReadyFor n reports (judged.Noted entry) = IsReadyNote n entry reports
IsReadyFor n reports (judged.Barred why) = Unit {0}

-- ---- plans of steps

-- a report gets this entry, and these identity answers
abbrev pub IsNote : Mutation → ℕ → Entry → Option Answered → Type 0
IsNote (planned.Notes n) number entry given = (n.number ≡ number) × (n.entry ≡ entry) × (n.secret ≡ given)
IsNote _ number entry given = ⊥

-- what bars a writing on a report of this trail
abbrev pub barred : List Entry → Writing → Option Told
barred trail w = doing_fault trail (user_by (actor_of (who_seen w.who))) (doing_of w.doing)

-- what is written on a report of this trail, or that it is barred
abbrev pub WritesIn : Calendar → List Entry → ℕ → Writing → TurnPlan → Type 0
WritesIn calendar trail time w plan =
    ((barred trail w ≡ None) × (plan.told ≡ w.told) × IsNote plan.change w.number (doing_entry calendar time (who_seen w.who) trail (doing_of w.doing)) w.given)
    ⊎ ((plan.change ≡ planned.Nothing) × (barred trail w ≡ Some plan.told))

-- how many there may be of what is set
abbrev pub most_of : KeptProposal → ℕ
most_of (proposals.ToUser u next) = 10_000
most_of (proposals.ToForm f form) = 99
most_of (proposals.ToTenant next) = 0
most_of (proposals.ToContext c next) = 0

-- this is put in, with its row
abbrev pub IsPutIn : ℕ → Registry → KeptProposal → Mutation → Type 0
IsPutIn t g next (planned.Configures c) = (c.proposal ≡ next) × (c.row ≡ row_of t g next)
IsPutIn t g next _ = ⊥

-- what is set, or that it is barred
abbrev pub SetsIn : ℕ → Registry → Setting → TurnPlan → Type 0
SetsIn t g s plan =
    ((fault_of g s.proposal ≡ None) × (plan.told ≡ s.told) × IsPutIn t g s.proposal plan.change)
    ⊎ ((plan.change ≡ planned.Nothing) × (option_map (admin_told (most_of s.proposal)) (fault_of g s.proposal) ≡ Some plan.told))

-- what is left to do for the plan of a request over the tables that are purged at the turn's time
abbrev pub DraftsOver : KeptTenancy → List SealedItem → KeptAt → Asked → Draft → Type 0
DraftsOver x sealed at a step = IsDraftOf x.configuration.tenant (purged at.time (tables_of sealed (place_of x))) (at_of at) a (target (live_plain at.time (plain_of x)) a.session (outline a.command)) step

-- a report stands with this trail
abbrev pub HasTrail : List Report → ℕ → List Entry → Type 0
HasTrail reports number trail = report number (map case_of reports) ≡ Some (record { number = number; trail = trail })
