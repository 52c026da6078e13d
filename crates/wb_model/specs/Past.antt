-- One tenant's host as the list of its past turns, the newest outermost: every fact is a filter of it, or the last of its kind.
use Rattle.std.specs.Prelude.{ℕ, ◌+◌, ◌==◌, ◌&&◌, ◌||◌, nat_le, not, max, Bool, true, false, if◌then◌else◌, List, [], ◌∷◌, ◌++◌, map, filter, Option, Some, None, option_map, ℤ}
use Rattle.std.specs.Ordering.{int_eq}
use Rattle.std.specs.List.{list_any}
use Rattle.wb_base.specs.declared.callers.Principal.{Principal}
use Rattle.wb_base.specs.declared.callers.Principal.TheVariants as principals
use Rattle.wb_base.specs.AnswerList.{Answered}
use Rattle.wb_base.specs.Days.{day_of}
use Rattle.wb_model.specs.declared.command.Asked.{Asked}
use Rattle.wb_model.specs.declared.command.Command.{Command}
use Rattle.wb_model.specs.declared.entry.Entry.{Entry}
use Rattle.wb_model.specs.declared.event.Event.{Event}
use Rattle.wb_model.specs.declared.event.What.{What}
use Rattle.wb_model.specs.declared.event.What.TheVariants.{Did, Gap, Idle, Lost}
use Rattle.wb_model.specs.declared.numbering.Numbering.{Numbering}
use Rattle.wb_model.specs.Tables.{Registry, Plain, Case, Session, Who, TheUser, TheReporter, report, is_live, is_there, lasts, drawn_on}
use Rattle.wb_model.specs.Commands.{Need, Names, need, effect_of}
use Rattle.wb_model.specs.Requests.{outline, outcome, secret_of}
use Rattle.wb_model.specs.Changes.{TurnContext, Change, Nothing, Draws, Begins, Notes, Deletes}
use Rattle.wb_model.specs.OnReports.{change_on}
use Rattle.wb_model.specs.Rules.{change_alone}
use Rattle.wb_model.specs.Host.{Tables, Host, is_draw, registry_after, ends, made, remaining}
use Rattle.wb_model.specs.Opened.{entries_of, Opened}

-- ---- the list

-- an opening, and the turns since
pub data Past (O : Type 0) : Type 0 where
  Opening : O → Past O
  Turn : Event → Past O → Past O

-- ---- time and turns

abbrev pub turns : {O : Type 0} → Past O → ℕ
turns (Opening o) = 0
turns (Turn e past) = turns past + 1

-- the greatest moment
abbrev pub now : Past Opened → ℕ
now (Opening o) = o.at
now (Turn e past) = max (now past) e.moment

-- the turn that an event was
abbrev pub at_of : Past Opened → Event → TurnContext
at_of past e = record { time = max (now past) e.moment; turn = turns past + 1; words = e.words }

-- ---- what a turn changed

abbrev pub who_of : Principal → Who
who_of (principals.User t u) = TheUser u
who_of (principals.Report t n) = TheReporter n

abbrev pub named : Need → Option ℕ
named (Names role right n) = Some n
named _ = None

-- the report that a command was on: a reporter's own, or the one that the command names
abbrev pub report_of : Command → Option Principal → Option ℕ
report_of command None = None
report_of command (Some (principals.User t u)) = named (need command)
report_of command (Some (principals.Report t n)) = Some n

-- the report that an event was on
abbrev pub about : What → Option ℕ
about (Did asked by) = report_of asked.command by
about _ = None

-- what an accepted command changed that was on no report
abbrev pub alone_by : TurnContext → Registry → Asked → Option Principal → Option ℕ → Change
alone_by at g a by None = let who = option_map who_of by in change_alone at g who (outcome g [] a.command) (effect_of at g who a.session [] (outline a.command))
alone_by at g a by (Some n) = Nothing

-- what it changed, with the trail of the report that it was on
abbrev pub change_by : TurnContext → Registry → List Entry → Asked → Option Principal → Option ℕ → Change
change_by at g trail a by None = alone_by at g a by None
change_by at g trail a None (Some n) = Nothing
change_by at g trail a (Some by) (Some n) = change_on at g (who_of by) n trail (effect_of at g (Some (who_of by)) a.session trail (outline a.command))

abbrev pub alone_in : What → TurnContext → Registry → Change
alone_in (Did asked by) at g = alone_by at g asked by (report_of asked.command by)
alone_in (Gap t) at g = Draws
alone_in Idle at g = Nothing
alone_in Lost at g = Nothing

abbrev pub change_in : What → TurnContext → Registry → List Entry → Change
change_in (Did asked by) at g trail = change_by at g trail asked by (report_of asked.command by)
change_in (Gap t) at g trail = Draws
change_in Idle at g trail = Nothing
change_in Lost at g trail = Nothing

-- the identity answers that an event gave
abbrev pub secret_in : What → Registry → Option Answered
secret_in (Did asked by) g = secret_of g asked.command
secret_in _ g = None

-- ---- facts of the tenant

-- what the accepted settings made of the opening's
abbrev pub registry : Past Opened → Registry
registry (Opening o) = o.tables.plain.registry
registry (Turn e past) = registry_after (alone_in e.what (at_of past e) (registry past)) (registry past)

abbrev pub alone_at : Past Opened → Event → Change
alone_at past e = alone_in e.what (at_of past e) (registry past)

-- the turn drew a number: it was an accepted submission, or a draw for no report
abbrev pub drew : Past Opened → Event → Bool
drew past e = is_draw (alone_at past e)

-- the last number drawn
abbrev pub last : Past Opened → ℕ
last (Opening o) = o.tables.plain.numbering.last
last (Turn e past) = if drew past e then last past + 1 else last past

-- the host's time at the last draw
abbrev pub drawn_at : Past Opened → ℕ
drawn_at (Opening o) = o.tables.plain.numbering.at
drawn_at (Turn e past) = if drew past e then (at_of past e).time else drawn_at past

-- the tenant's day of a moment: no setting changes the offset
abbrev pub day : Past Opened → ℕ → ℤ
day (Opening o) moment = day_of moment o.tables.plain.registry.settings.offset
day (Turn e past) moment = day past moment

-- how many numbers were drawn on a day
abbrev pub drawn : Past Opened → ℤ → ℕ
drawn (Opening o) d = drawn_on d o.tables.plain.registry.settings o.tables.plain.numbering
drawn (Turn e past) d = if drew past e && int_eq (day past (at_of past e).time) d then drawn past d + 1 else drawn past d

abbrev pub numbering : Past Opened → Numbering
numbering past = record { at = drawn_at past; drawn = drawn past (day past (drawn_at past)); last = last past }

-- ---- facts of a report

-- the trail of the report that an event was on
abbrev pub trail_of : Option ℕ → (ℕ → List Entry) → List Entry
trail_of None trails = []
trail_of (Some n) trails = trails n

-- r's trail after a change: an entry on r counts before r's expiry
abbrev pub grown : Change → ℕ → ℕ → Bool → List Entry → List Entry
grown (Begins entry) last r lives trail = if last + 1 == r then entry ∷ [] else trail
grown (Notes n entry) last r lives trail = if (n == r) && lives then trail ++ entry ∷ [] else trail
grown _ last r lives trail = trail

abbrev pub lives_at : Registry → ℕ → ℕ → List Entry → Bool
lives_at g time r trail = is_live g.settings time (record { number = r; trail = trail })

-- r's trail: one entry for each accepted command on r but its deletion; what is accepted is on a live report, and what else a list of events may have
-- on r counts for nothing after r's expiry
abbrev pub trail : Past Opened → ℕ → List Entry
trail (Opening o) r = entries_of (report r o.tables.plain.cases)
trail (Turn e past) r = let at = at_of past e in
    grown (change_in e.what at (registry past) (trail_of (about e.what) (trail past))) (last past) r (lives_at (registry past) at.time r (trail past r)) (trail past r)

-- what a turn changed
abbrev pub change_at : Past Opened → Event → Change
change_at past e = change_in e.what (at_of past e) (registry past) (trail_of (about e.what) (trail past))

abbrev pub numbers_after : Change → ℕ → List ℕ → List ℕ
numbers_after (Begins entry) last numbers = numbers ++ (last + 1) ∷ []
numbers_after (Deletes n) last numbers = filter (λ k. not (k == n)) numbers
numbers_after _ last numbers = numbers

-- the numbers of all reports that were not deleted, in the order in which they were drawn
abbrev pub numbers : Past Opened → List ℕ
numbers (Opening o) = map (λ c. c.number) o.tables.plain.cases
numbers (Turn e past) = numbers_after (change_at past e) (last past) (numbers past)

-- r was submitted, and no accepted deletion of it followed
abbrev pub has_report : Past Opened → ℕ → Bool
has_report past r = list_any (λ n. n == r) (numbers past)

-- r is live at a moment: it was not deleted, and the tenant's day is before its expiry
abbrev pub live : Past Opened → ℕ → ℕ → Bool
live past r time = has_report past r && lives_at (registry past) time r (trail past r)

abbrev pub newer : Option Answered → Option Answered → Option Answered
newer None before = before
newer (Some given) before = Some given

abbrev pub given : Change → ℕ → ℕ → Bool → Option Answered → Option Answered → Option Answered
given (Begins entry) last r lives secret before = if last + 1 == r then secret else before
given (Notes n entry) last r lives secret before = if (n == r) && lives then newer secret before else before
given _ last r lives secret before = before

-- the identity answers that were given last for r, before its expiry
abbrev pub sealed : Past Opened → ℕ → Option Answered
sealed (Opening o) r = o.tables.sealed r
sealed (Turn e past) r = given (change_at past e) (last past) r (lives_at (registry past) (at_of past e).time r (trail past r)) (secret_in e.what (registry past)) (sealed past r)

-- ---- the tables

abbrev pub case_of : Past Opened → ℕ → Case
case_of past n = record { number = n; trail = trail past n }

-- the reports that are live at a moment
abbrev pub live_reports : Past Opened → ℕ → List Case
live_reports past time = filter (is_live (registry past).settings time) (map (case_of past) (numbers past))

-- the sessions that logins made so far, in the order of their turns; a reporter who logs in has a live report, and what else a list of events may
-- have counts for nothing
abbrev pub logins : Past Opened → List Session
logins (Opening o) = o.tables.plain.sessions
logins (Turn e past) = let at = at_of past e in logins past ++ filter (lasts at.time (live_reports past at.time)) (made (change_at past e))

-- the sessions that stood just after each turn: those that stood just before it, less those that it ended, and the one that it made
abbrev pub recent : Past Opened → List Session
recent (Opening o) = o.tables.plain.sessions
recent (Turn e past) = let at = at_of past e in
    remaining (change_at past e) (filter (lasts at.time (live_reports past at.time)) (recent past)) ++ filter (lasts at.time (live_reports past at.time)) (made (change_at past e))

-- a session stands: it lasts, and no later turn ended it
abbrev pub stands_by : (Session → Bool) → ℕ → List Case → Session → Bool
stands_by is_ended time live s = lasts time live s && not (is_ended s)

-- a turn after that of s ended it, by the sessions that stood just before
abbrev pub is_ended : Past Opened → Session → Bool
is_ended (Opening o) s = false
is_ended (Turn e past) s = let at = at_of past e in
    is_ended past s || (nat_le s.turn (turns past) && ends (change_at past e) (filter (stands_by (is_ended past) at.time (live_reports past at.time)) (logins past)) s)

-- the session s stands at a moment
abbrev pub stands : Past Opened → ℕ → Session → Bool
stands past time s = stands_by (is_ended past) time (live_reports past time) s

-- the sessions that stand at a moment
abbrev pub standing_sessions : Past Opened → ℕ → List Session
standing_sessions past time = filter (stands past time) (logins past)

abbrev pub plain : Past Opened → ℕ → Plain
plain past time = record { registry = registry past; numbering = numbering past; cases = live_reports past time; sessions = standing_sessions past time }

-- the tables at a moment
abbrev pub tables : Past Opened → ℕ → Tables
tables past time = record { plain = plain past time; sealed = λ n. if is_there n (live_reports past time) then sealed past n else None }

abbrev pub is_lost : What → Bool
is_lost Lost = true
is_lost _ = false

-- what the host holds: the tables at the last turn that was not lost, or those that it was opened with
abbrev pub held : Past Opened → Tables
held (Opening o) = o.tables
held (Turn e past) = if is_lost e.what then held past else tables (Turn e past) (now (Turn e past))

-- the host that stands for a past
abbrev pub standing : Past Opened → Host
standing past = record { turns = turns past; now = now past; tables = held past }
