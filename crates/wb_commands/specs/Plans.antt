-- What the code plans stands for.
use Rattle.std.specs.Prelude.{◌≡◌, ℕ, ◌<◌, ◌+◌, nat_le, true, List, [], ◌∷◌, Option, Some, None, map, if◌then◌else◌}
use Rattle.std.specs.Option.{option_or}
use Rattle.wb_base.specs.AnswerList.{Answered}
use Rattle.wb_base.specs.AnswerFaults.{answers_fault, public_of, sealed_of, is_marked}
use Rattle.wb_base.specs.declared.form.Form.{Form}
use Rattle.wb_trigger.specs.declared.split.Split.{Split}
use Rattle.wb_model.specs.declared.body.Told.{Told}
use Rattle.wb_model.specs.declared.command.Asked.{Asked}
use Rattle.wb_model.specs.declared.entry.Entry.{Entry}
use Rattle.wb_model.specs.declared.registry.ContextItem.{ContextItem}
use Rattle.wb_model.specs.declared.registry.FormItem.{FormItem}
use Rattle.wb_model.specs.Access.{requests}
use Rattle.wb_model.specs.Changes.{TurnContext, Change, Nothing, Begins, Notes, Deletes, LogsIn, LogsOut, Configures, Verdict, judged}
use Rattle.wb_model.specs.Effects.{Submits, in_open}
use Rattle.wb_model.specs.Host.{Sealed, Tables, drawn, ruling, reply_by, change_of as verdict_change}
use Rattle.wb_model.specs.Refusals.{numbers_spent, quota_spent, receipt_taken}
use Rattle.wb_model.specs.Refusing.{refuses_where}
use Rattle.wb_model.specs.Requests.{Outcome, submission_outcome, submission_secret, request, sealed_part, Checked}
use Rattle.wb_model.specs.AskingForms.{asking_form}
use Rattle.wb_model.specs.Rules.{refusal_alone, change_alone, answer_alone, verdict_on}
use Rattle.wb_model.specs.Submissions.{Drawing, drawing, submission_entry}
use Rattle.wb_model.specs.Tables.{Registry, Plain, Session, Who, context as context_by, newest_form, is_there}
use Rattle.wb_model.specs.Targets.{Target, trail_at}
use Rattle.wb_tables.specs.declared.tenancy.Tenancy.{Tenancy as KeptTenancy}
use Rattle.wb_tables.specs.Configured.{IsReadyToSet, row_of, setting_of}
use Rattle.wb_tables.specs.Kept.{plain_of, live_plain}
use Rattle.wb_tables.specs.Logins.{AreEarlier, login_of, session_of, who_seen}
use Rattle.wb_tables.specs.Noted.{IsReadyNote}
use Rattle.wb_tables.specs.Receipted.{is_submitted}
use Rattle.wb_tables.specs.declared.turn_context.TurnContext.{TurnContext as KeptAt}
use Rattle.wb_commands.specs.declared.opening.Opening.{Opening}
use Rattle.wb_commands.specs.declared.plan.TurnPlan.{TurnPlan}
use Rattle.wb_commands.specs.declared.mutation.Mutation.{Mutation}
use Rattle.wb_commands.specs.declared.mutation.Mutation.TheVariants as planned
use Rattle.wb_tables.specs.TurnContexts.{at_of}

-- a report begins with an entry
abbrev pub begins : List Entry → Change
begins [] = Nothing
begins (e ∷ es) = Begins e

-- what is planned of a tenant that is set up so
abbrev pub change_of : ℕ → Registry → Mutation → Change
change_of t g planned.Nothing = Nothing
change_of t g (planned.Begins o) = begins o.case.items
change_of t g (planned.Notes n) = Notes n.number n.entry
change_of t g (planned.Deletes n) = Deletes n
change_of t g (planned.LogsIn login) = LogsIn (login_of login)
change_of t g (planned.LogsOut turn who) = LogsOut turn (who_seen who)
change_of t g (planned.Configures c) = Configures (setting_of t g c.proposal)

-- the identity answers that come with it
abbrev pub given_of : Mutation → Option Answered
given_of (planned.Begins o) = o.secret
given_of (planned.Notes n) = n.secret
given_of _ = None

-- a change that takes identity answers has these
abbrev pub GivesSecret : Mutation → Option Answered → Type 0
GivesSecret (planned.Begins o) given = o.secret ≡ given
GivesSecret (planned.Notes n) given = n.secret ≡ given
GivesSecret _ given = Unit {0}

-- a report begins with this entry, and these identity answers
abbrev pub IsBegun : Mutation → Entry → Option Answered → Type 0
IsBegun (planned.Begins o) entry secret = (o.case.items ≡ entry ∷ []) × (o.secret ≡ secret)
IsBegun _ entry secret = ⊥

-- this session begins
abbrev pub IsLogin : Mutation → Session → Type 0
IsLogin (planned.LogsIn login) session = login_of login ≡ session
IsLogin _ session = ⊥

-- ---- room

-- a report that begins has the next number of these tables, and the numbering after it is drawn at a time
abbrev pub IsDraw : ℕ → Plain → Opening → Type 0
IsDraw time p o = (o.number ≡ p.numbering.last + 1) × (o.numbering ≡ drawn time p.registry.settings p.numbering)

-- what a change that is planned at once asks of a tenant's tables but for room: a report that begins has its draw and one entry, a
-- submission, which asks for no identity; and a login is made at a later turn than all others
abbrev pub IsFitAtOnce : ℕ → KeptTenancy → Mutation → Type 0
IsFitAtOnce time x (planned.Begins o) = IsDraw time (plain_of x) o × ((e : Entry) × (o.case.items ≡ e ∷ [])) × (requests o.case.items ≡ []) × (is_submitted o.case.items ≡ true)
IsFitAtOnce time x (planned.LogsIn login) = AreEarlier login.turn (map session_of x.sessions.items)
IsFitAtOnce time x (planned.Notes n) = ⊥
IsFitAtOnce time x (planned.Configures c) = ⊥
IsFitAtOnce time x _ = Unit {0}

-- and so of each: an entry comes to a live report, and a setting comes with its row
abbrev pub IsFit : ℕ → KeptTenancy → Mutation → Type 0
IsFit time x (planned.Notes n) = is_there n.number (live_plain time (plain_of x)).cases ≡ true
IsFit time x (planned.Configures c) = c.row ≡ row_of x.configuration.tenant x.configuration.registry c.proposal
IsFit time x change = IsFitAtOnce time x change

-- what is made ready before there is room: the report that an entry comes to, and what a tenant is set up with for a setting
abbrev pub IsReady : KeptTenancy → Mutation → Type 0
IsReady x (planned.Notes n) = IsReadyNote n.number n.entry x.cases.items
IsReady x (planned.Configures c) = IsReadyToSet x.configuration c.proposal
IsReady x _ = Unit {0}

-- so much room for identity answers, and what there is in a tenant's tables, is enough for a change; what only goes needs none
abbrev pub HasRoomFor : KeptTenancy → ℕ → Mutation → Type 0
HasRoomFor x sealed (planned.Begins o) = (0 < x.cases.spare) × (0 < sealed)
HasRoomFor x sealed (planned.Notes n) = IsReadyNote n.number n.entry x.cases.items × (0 < x.cases.spare) × (0 < sealed)
HasRoomFor x sealed (planned.LogsIn login) = 0 < x.sessions.spare
HasRoomFor x sealed (planned.Configures c) = IsReadyToSet x.configuration c.proposal
HasRoomFor x sealed _ = Unit {0}

-- a tenant's tables, and the identity answers, have all that a change takes
pub record IsRoomyFor (time : ℕ) (x : KeptTenancy) (sealed : ℕ) (change : Mutation) : Type 0 where
  pub fit : IsFit time x change
  pub room : HasRoomFor x sealed change

-- ---- plans

-- the plan is the verdict's reply over these identity answers, and its change, with those that the request gives, of a tenant
-- that is set up so
pub record IsPlan (id : ℕ) (g : Registry) (sealed : Sealed) (v : Verdict) (secret : Option Answered) (plan : TurnPlan) : Type 0 where
  pub reply : reply_by v sealed ≡ plan.told
  pub change : verdict_change v ≡ change_of id g plan.change
  pub given : GivesSecret plan.change secret

-- the plan of a request on this target
abbrev pub PlansOn : ℕ → Tables → TurnContext → Asked → Target → TurnPlan → Type 0
PlansOn id t at a to plan = IsPlan id t.plain.registry t.sealed (verdict_on t.plain at (request t.plain.registry (trail_at to) a) to) (sealed_part t.plain a) plan

-- the plan of a request over a tenant's purged tables
abbrev pub PlansTurn : ℕ → Tables → TurnContext → Asked → TurnPlan → Type 0
PlansTurn id t at a plan = IsPlan id t.plain.registry t.sealed (ruling t at a) (sealed_part t.plain a) plan

-- a tenant's tables at a time, with these identity answers
abbrev pub tables_at : ℕ → KeptTenancy → Sealed → Tables
tables_at time x sealed = record { plain = live_plain time (plain_of x); sealed = sealed }

-- ---- submissions

-- what stands in the way of a draw
abbrev pub drawing_refusal : ℕ → Drawing → Option Told
drawing_refusal quota n =
    option_or (refuses_where (nat_le 4_294_967_295 n.last) numbers_spent)
    (option_or (refuses_where (nat_le quota n.today) (quota_spent quota))
    (refuses_where n.taken receipt_taken))

-- the verdict on a submission to a context, once its answers are checked
abbrev pub submission_verdict : Plain → TurnContext → Option Who → ℕ → Outcome → Verdict
submission_verdict p at who id o = let does = in_open Submits id p.registry in
    judged (refusal_alone p.registry (drawing at p) o does) (change_alone at p.registry who o does) (answer_alone at p who does)

-- the open context of an id, and its form in the newest version
pub record IsAsking (g : Registry) (id : ℕ) (c : ContextItem) (item : FormItem) : Type 0 where
  pub context : context_by id g.contexts ≡ Some c
  pub opens : c.is_open ≡ true
  pub form : newest_form c.form g.forms ≡ Some item

abbrev pub IsAskingIn : KeptTenancy → ℕ → ContextItem → FormItem → Type 0
IsAskingIn x id c item = IsAsking x.configuration.registry id c item

-- right answers, parted into public ones and identity answers
pub record IsSplit (form : Form) (answers : Answered) (split : Split) : Type 0 where
  pub valid : answers_fault form answers ≡ None
  pub public : split.public ≡ public_of form answers
  pub sealed : split.sealed ≡ sealed_of form answers
  pub mark : split.mark ≡ is_marked form answers

-- the plan of a submission to a context
abbrev pub PlansSubmission : ℕ → Plain → TurnContext → ℕ → Answered → TurnPlan → Type 0
PlansSubmission t p at id answers plan = let form = asking_form (context_by id p.registry.contexts) p.registry.forms in
    (who : Option Who) (sealed : Sealed) → IsPlan t p.registry sealed (submission_verdict p at who id (submission_outcome form answers)) (submission_secret form answers) plan

-- a report begins with the entry of a submission to a context, and the identity answers that it gives
abbrev pub BeginsWith : Registry → KeptAt → ContextItem → FormItem → Split → Mutation → Type 0
BeginsWith g at c item split change = IsBegun change (submission_entry (at_of at) g (Checked None split.public split.mark) c item) (if split.mark then Some split.sealed else None)

-- the plan of a submission to a context of a tenant, over its live tables
abbrev pub PlansDraw : KeptTenancy → KeptAt → ℕ → Answered → TurnPlan → Type 0
PlansDraw x at id answers plan = PlansSubmission x.configuration.tenant (live_plain at.time (plain_of x)) (at_of at) id answers plan
