-- Requests on a report that their caller finds: what refuses one, what it changes, and what is answered.
use Rattle.std.specs.Prelude.{ℕ, not, Bool, false, List, Option, Some, None}
use Rattle.std.specs.Option.{option_or}
use Rattle.wb_model.specs.declared.body.Told.{Told}
use Rattle.wb_model.specs.declared.entry.Entry.{Entry}
use Rattle.wb_model.specs.Access.{in_force, user_by}
use Rattle.wb_model.specs.Tables.{Registry, Case, Who, TheUser, TheReporter, disablings}
use Rattle.wb_model.specs.Json.{told}
use Rattle.wb_model.specs.Refusals.{not_found}
use Rattle.wb_model.specs.Refusing.{refuses_where}
use Rattle.wb_model.specs.Requests.{Outcome}
use Rattle.wb_model.specs.ShortViews.{done_view}
use Rattle.wb_model.specs.Views.{recipient_view}
use Rattle.wb_model.specs.Changes.{TurnContext, Change, Nothing, Notes, Deletes, LogsIn, LogsOut, Answer, Says, Shows_own, Shows_identity}
use Rattle.wb_model.specs.Submissions.{outcome_refusal}
use Rattle.wb_model.specs.Logins.{new_session, welcome}
use Rattle.wb_model.specs.Doings.{doing_fault, doing_entry, doing_told, actor_of}
use Rattle.wb_model.specs.Effects.{ToReader, ToReporter, TheIdentity, Effect, Misses, Looks, Reads, Writes, Erases, Submits, Comes, Goes, Sets}

-- the user's grant on the report is in force
abbrev pub has_grant : ℕ → Registry → Who → Case → Bool
has_grant now g (TheUser u) case = in_force u (disablings u g.users) now case.trail
has_grant now g (TheReporter n) case = false

-- ---- what refuses it

abbrev pub refusal_on : TurnContext → Registry → Who → Case → Outcome → Effect → Option Told
refusal_on at g who case o (Reads ToReader) = None
refusal_on at g who case o (Reads ToReporter) = None
refusal_on at g who case o (Reads TheIdentity) = refuses_where (not (has_grant at.time g who case)) not_found
refusal_on at g who case o (Writes doing) = option_or (outcome_refusal o) (doing_fault case.trail (user_by (actor_of who)) doing)
refusal_on at g who case o Erases = None
refusal_on at g who case o (Comes role) = None
refusal_on at g who case o (Goes turn) = None
refusal_on at g who case o Misses = Some not_found
refusal_on at g who case o (Looks view) = Some not_found
refusal_on at g who case o (Submits c form) = Some not_found
refusal_on at g who case o (Sets t proposal) = Some not_found

-- ---- what it changes: one more entry on that report, a session of its reporter, or the report goes

abbrev pub change_on : TurnContext → Registry → Who → ℕ → List Entry → Effect → Change
change_on at g who n trail (Writes doing) = Notes n (doing_entry g.settings.calendar at.time who trail doing)
change_on at g who n trail Erases = Deletes n
change_on at g who n trail (Comes role) = LogsIn (new_session at g role (TheReporter n))
change_on at g who n trail (Goes turn) = LogsOut turn (TheReporter n)
change_on at g who n trail Misses = Nothing
change_on at g who n trail (Looks view) = Nothing
change_on at g who n trail (Reads part) = Nothing
change_on at g who n trail (Submits c form) = Nothing
change_on at g who n trail (Sets t proposal) = Nothing

-- ---- what is answered

-- a user's read; a reporter's session does not come this far
abbrev pub read_by : TurnContext → Registry → Case → Who → Told
read_by at g case (TheUser u) = told 200 (recipient_view g.users u at.time case)
read_by at g case (TheReporter n) = not_found

abbrev pub answer_on : TurnContext → Registry → Who → Case → Effect → Answer
answer_on at g who case (Reads ToReader) = Says (read_by at g case who)
answer_on at g who case (Reads ToReporter) = Shows_own case
answer_on at g who case (Reads TheIdentity) = Shows_identity case.number
answer_on at g who case (Writes doing) = Says (doing_told case.trail doing)
answer_on at g who case Erases = Says (told 200 done_view)
answer_on at g who case (Comes role) = Says (welcome at role)
answer_on at g who case (Goes turn) = Says (told 200 done_view)
answer_on at g who case Misses = Says not_found
answer_on at g who case (Looks view) = Says not_found
answer_on at g who case (Submits c form) = Says not_found
answer_on at g who case (Sets t proposal) = Says not_found
