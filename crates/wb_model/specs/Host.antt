-- One tenant's host: what a turn answers, and the tables after it.
use Rattle.std.specs.Prelude.{ℕ, ◌+◌, ◌==◌, ◌&&◌, nat_le, not, max, Bool, true, false, if◌then◌else◌, List, [], ◌∷◌, ◌++◌, length, map, filter, Option, Some, None, unwrap_or}
use Rattle.wb_base.specs.AnswerList.{Answered}
use Rattle.wb_base.specs.Days.{day_of}
use Rattle.wb_model.specs.declared.body.Told.{Told}
use Rattle.wb_model.specs.declared.command.Asked.{Asked}
use Rattle.wb_model.specs.declared.entry.Entry.{Entry}
use Rattle.wb_model.specs.declared.numbering.Numbering.{Numbering}
use Rattle.wb_model.specs.declared.registry.TenantItem.{TenantItem}
use Rattle.wb_model.specs.Tables.{Registry, Plain, Case, Session, Who, TheUser, TheReporter, same_who, is_live, is_there, lasts, others, is_reporter_of, drawn_on}
use Rattle.wb_model.specs.Json.{told}
use Rattle.wb_model.specs.Views.{reporter_view, identity_view}
use Rattle.wb_model.specs.Requests.{Frame, plain_part, sealed_part}
use Rattle.wb_model.specs.Settings.{Setting, OfUser, configured}
use Rattle.wb_model.specs.Changes.{TurnContext, Change, Nothing, Draws, Begins, Notes, Deletes, LogsIn, LogsOut, Configures, Answer, Says, Shows_own, Shows_identity, Verdict, Refused, Accepted}
use Rattle.wb_model.specs.Rules.{verdict}

-- the identity answers by the number of their report
abbrev pub Sealed : Type 0
Sealed = ℕ → Option Answered

pub record Tables : Type 0 where
  pub plain : Plain
  pub sealed : Sealed

-- ---- a purge

abbrev pub live_cases : Plain → ℕ → List Case
live_cases p now = filter (is_live p.registry.settings now) p.cases

-- reports that are not live are gone, and their identity answers and sessions with them; so are sessions that have ended
abbrev pub purged : ℕ → Tables → Tables
purged now t = let live = live_cases t.plain now in record {
  plain = record t.plain { cases = live; sessions = filter (lasts now live) t.plain.sessions };
  sealed = λ n. if is_there n live then t.sealed n else None;
}

-- ---- a change

abbrev pub is_draw : Change → Bool
is_draw Draws = true
is_draw (Begins entry) = true
is_draw _ = false

-- the numbering after a draw at a moment
abbrev pub drawn : ℕ → TenantItem → Numbering → Numbering
drawn now settings numbering = record { at = now; drawn = drawn_on (day_of now settings.offset) settings numbering + 1; last = numbering.last + 1 }

-- one more entry on the report of a number
abbrev pub noted : ℕ → Entry → Case → Case
noted n entry case = record { number = case.number; trail = if case.number == n then case.trail ++ entry ∷ [] else case.trail }

abbrev pub cases_after : Change → ℕ → List Case → List Case
cases_after (Begins entry) last cases = cases ++ record { number = last + 1; trail = entry ∷ [] } ∷ []
cases_after (Notes n entry) last cases = map (noted n entry) cases
cases_after (Deletes n) last cases = others n cases
cases_after _ last cases = cases

abbrev pub registry_after : Change → Registry → Registry
registry_after (Configures setting) g = configured setting g
registry_after _ g = g

abbrev pub is_user : ℕ → Who → Bool
is_user u (TheUser v) = v == u
is_user u (TheReporter n) = false

abbrev pub ends_of : Setting → Who → Bool
ends_of (OfUser item ends) who = ends && is_user item.id who
ends_of _ who = false

-- how many of the sessions are of this caller and were made at the turn of s or later
abbrev pub count_from : Who → Session → List Session → ℕ
count_from who s standing = length (filter (λ z. same_who z.who who && nat_le s.turn z.turn) standing)

-- a change ends the session s, where these stand just before it: a logout that used s; a setting that disables its user
-- or gives a password; the deletion of its report; or a login of its caller, of whom eight sessions from s on stand
abbrev pub ends : Change → List Session → Session → Bool
ends (LogsOut turn who) standing s = s.turn == turn && same_who s.who who
ends (Configures setting) standing s = ends_of setting s.who
ends (Deletes n) standing s = is_reporter_of n s.who
ends (LogsIn new) standing s = same_who s.who new.who && nat_le 8 (count_from new.who s standing)
ends _ standing s = false

-- the session that a change makes
abbrev pub made : Change → List Session
made (LogsIn new) = new ∷ []
made _ = []

abbrev pub remaining : Change → List Session → List Session
remaining change standing = filter (λ s. not (ends change standing s)) standing

abbrev pub sessions_after : Change → List Session → List Session
sessions_after (LogsIn new) standing = remaining (LogsIn new) standing ++ new ∷ []
sessions_after (LogsOut turn who) standing = remaining (LogsOut turn who) standing
sessions_after (Configures setting) standing = remaining (Configures setting) standing
sessions_after (Deletes n) standing = remaining (Deletes n) standing
sessions_after _ standing = standing

abbrev pub plain_after : ℕ → Change → Plain → Plain
plain_after now change p = record {
  registry = registry_after change p.registry;
  numbering = if is_draw change then drawn now p.registry.settings p.numbering else p.numbering;
  cases = cases_after change p.numbering.last p.cases;
  sessions = sessions_after change p.sessions;
}

abbrev pub sealed_under : ℕ → Option Answered → Sealed → Sealed
sealed_under n None sealed = sealed
sealed_under n (Some secret) sealed = λ k. if k == n then Some secret else sealed k

-- the identity answers after a change that comes with these
abbrev pub sealed_after : Change → ℕ → Option Answered → Sealed → Sealed
sealed_after (Begins entry) last secret sealed = sealed_under (last + 1) secret sealed
sealed_after (Notes n entry) last secret sealed = sealed_under n secret sealed
sealed_after (Deletes n) last secret sealed = λ k. if k == n then None else sealed k
sealed_after _ last secret sealed = sealed

abbrev pub changed : ℕ → Change → Option Answered → Tables → Tables
changed now change secret t = record { plain = plain_after now change t.plain; sealed = sealed_after change t.plain.numbering.last secret t.sealed }

-- ---- a turn over purged tables

-- the verdict on a request
abbrev pub ruling : Tables → TurnContext → Asked → Verdict
ruling t at a = verdict t.plain at (plain_part t.plain a)

abbrev pub change_of : Verdict → Change
change_of (Refused refusal) = Nothing
change_of (Accepted change answer) = change

-- the reply of an answer: here alone identity answers are read (under a grant in force there are some)
abbrev pub said : Answer → Sealed → Told
said (Says reply) sealed = reply
said (Shows_own case) sealed = told 200 (reporter_view case (sealed case.number))
said (Shows_identity n) sealed = told 200 (identity_view n (unwrap_or (sealed n) []))

abbrev pub reply_by : Verdict → Sealed → Told
reply_by (Refused refusal) sealed = refusal
reply_by (Accepted change answer) sealed = said answer sealed

-- the tables after a request
abbrev pub tables_after : Tables → TurnContext → Asked → Tables
tables_after t at a = changed at.time (change_of (ruling t at a)) (sealed_part t.plain a) t

-- ---- a host

-- how many turns there were, the host's time, and its tables
pub record Host : Type 0 where
  pub turns : ℕ
  pub now : ℕ
  pub tables : Tables

-- the host's time at a turn: time does not fall
abbrev pub time_at : Host → Frame → ℕ
time_at h f = max h.now f.moment

abbrev pub at_frame : Host → Frame → TurnContext
at_frame h f = record { time = time_at h f; turn = h.turns + 1; words = f.words }

-- the tables that a turn's request is judged over
abbrev pub purge_at : Host → Frame → Tables
purge_at h f = purged (time_at h f) h.tables

abbrev pub ruling_at : Host → Frame → Verdict
ruling_at h f = ruling (purge_at h f) (at_frame h f) f.asked

-- the reply of a turn
abbrev pub reply_to : Host → Frame → Told
reply_to h f = reply_by (ruling_at h f) (purge_at h f).sealed

-- the host after a turn
abbrev pub host_after : Host → Frame → Host
host_after h f = record { turns = h.turns + 1; now = time_at h f; tables = tables_after (purge_at h f) (at_frame h f) f.asked }
