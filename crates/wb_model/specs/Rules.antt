-- What is answered to a request and what it changes, over the tables but for identity answers.
use Rattle.std.specs.Prelude.{◌+◌, Option, Some, None, [], List}
use Rattle.std.specs.Option.{option_map_or}
use Rattle.wb_base.specs.Days.{day_of}
use Rattle.wb_base.specs.Secrets.{receipt_text}
use Rattle.wb_model.specs.declared.body.Told.{Told}
use Rattle.wb_model.specs.declared.entry.Entry.{Entry}
use Rattle.wb_model.specs.Tables.{Registry, Plain, Case, Who, TheUser}
use Rattle.wb_model.specs.Targets.{Target, Nobody, Alone, On, target}
use Rattle.wb_model.specs.Json.{told}
use Rattle.wb_model.specs.Refusals.{not_found}
use Rattle.wb_model.specs.ShortViews.{health_view, done_view, submission_view}
use Rattle.wb_model.specs.TenantViews.{public_view, context_view, admin_view}
use Rattle.wb_model.specs.ViewRows.{readable, all_listed, all_due, all_custodied}
use Rattle.wb_model.specs.ListViews.{list_view, due_view, custody_view}
use Rattle.wb_model.specs.Requests.{Outcome, Request}
use Rattle.wb_model.specs.Settings.{proposal_refusal, proposal_told, setting_of}
use Rattle.wb_model.specs.Changes.{TurnContext, Change, Nothing, Begins, LogsIn, LogsOut, Configures, Answer, Says, Verdict, Refused, judged}
use Rattle.wb_model.specs.Submissions.{Drawing, drawing, submission_refusal, submission_entry}
use Rattle.wb_model.specs.Logins.{new_session, welcome}
use Rattle.wb_model.specs.Effects.{View, OfHealth, OfTenant, OfContext, OfReports, OfDues, OfRequests, OfConfiguration, Effect, Misses, Looks, Reads, Writes, Erases, Submits, Comes, Goes, Sets, caller}
use Rattle.wb_model.specs.Commands.{effect_of}
use Rattle.wb_model.specs.OnReports.{refusal_on, change_on, answer_on}

-- ---- requests on no report: what refuses one

abbrev pub refusal_alone : Registry → Drawing → Outcome → Effect → Option Told
refusal_alone g n o (Looks view) = None
refusal_alone g n o (Submits c form) = submission_refusal g.settings.quota n o
refusal_alone g n o (Comes role) = None
refusal_alone g n o (Goes turn) = None
refusal_alone g n o (Sets t proposal) = proposal_refusal g proposal
refusal_alone g n o Misses = Some not_found
refusal_alone g n o (Reads part) = Some not_found
refusal_alone g n o (Writes doing) = Some not_found
refusal_alone g n o Erases = Some not_found

-- ---- what it changes: a report begins, a session of the user who asks begins or ends, or a setting is put in

abbrev pub change_alone : TurnContext → Registry → Option Who → Outcome → Effect → Change
change_alone at g who o (Submits c form) = Begins (submission_entry at g o c form)
change_alone at g who o (Comes role) = LogsIn (new_session at g role (TheUser (caller who)))
change_alone at g who o (Goes turn) = LogsOut turn (TheUser (caller who))
change_alone at g who o (Sets t proposal) = option_map_or Configures (setting_of t g proposal) Nothing
change_alone at g who o Misses = Nothing
change_alone at g who o (Looks view) = Nothing
change_alone at g who o (Reads part) = Nothing
change_alone at g who o (Writes doing) = Nothing
change_alone at g who o Erases = Nothing

-- ---- what is answered

abbrev pub shown : TurnContext → Plain → Option Who → View → Told
shown at p who OfHealth = told 200 health_view
shown at p who OfTenant = told 200 (public_view p.registry)
shown at p who (OfContext c form) = told 200 (context_view c form)
shown at p who OfReports = told 200 (list_view (all_listed (readable (caller who) p.cases)))
shown at p who OfDues = told 200 (due_view (all_due (readable (caller who) p.cases)) (day_of at.time p.registry.settings.offset))
shown at p who OfRequests = told 200 (custody_view (all_custodied p.registry.users p.cases))
shown at p who OfConfiguration = told 200 (admin_view p.registry p.numbering.last)

abbrev pub answer_alone : TurnContext → Plain → Option Who → Effect → Answer
answer_alone at p who (Looks view) = Says (shown at p who view)
answer_alone at p who (Submits c form) = Says (told 201 (submission_view (p.numbering.last + 1) (receipt_text at.words)))
answer_alone at p who (Comes role) = Says (welcome at role)
answer_alone at p who (Goes turn) = Says (told 200 done_view)
answer_alone at p who (Sets t proposal) = Says (proposal_told p.registry proposal)
answer_alone at p who Misses = Says not_found
answer_alone at p who (Reads part) = Says not_found
answer_alone at p who (Writes doing) = Says not_found
answer_alone at p who Erases = Says not_found

-- ---- the verdict

-- what a request does, with the trail of the report that it is on
abbrev pub effect_at : Plain → TurnContext → Request → Option Who → List Entry → Effect
effect_at p at q who trail = effect_of at p.registry who q.session trail q.command

abbrev pub verdict_alone : Plain → TurnContext → Request → Option Who → Verdict
verdict_alone p at q who = let does = effect_at p at q who [] in
    judged (refusal_alone p.registry (drawing at p) q.outcome does) (change_alone at p.registry who q.outcome does) (answer_alone at p who does)

abbrev pub verdict_on_case : Plain → TurnContext → Request → Who → Case → Verdict
verdict_on_case p at q who case = let does = effect_at p at q (Some who) case.trail in
    judged (refusal_on at p.registry who case q.outcome does) (change_on at p.registry who case.number case.trail does) (answer_on at p.registry who case does)

abbrev pub verdict_on : Plain → TurnContext → Request → Target → Verdict
verdict_on p at q (Nobody refusal) = Refused refusal
verdict_on p at q (Alone who) = verdict_alone p at q who
verdict_on p at q (On who case) = verdict_on_case p at q who case

-- the verdict on a request
abbrev pub verdict : Plain → TurnContext → Request → Verdict
verdict p at q = verdict_on p at q (target p q.session q.command)
