-- What is planned and done on a report in its place in the table.
use Rattle.std.specs.Prelude.{◌≡◌, ◌<◌, ◌≤◌, ◌++◌, ◌∷◌, [], ℕ, ◌==◌, not, true, List, length, find, None, Some, Result, IfOk, OnOk}
use Rattle.std.specs.Ordering.{nat_cmp}
use Rattle.wb_list.specs.Keyed.{has_key}
use Rattle.wb_base.specs.Calendars.{Calendar}
use Rattle.wb_case.specs.Plans.{GivesPlan}
use Rattle.wb_case.specs.Summaries.{needed_by}
use Rattle.wb_custody.specs.Desks.{HasRoom}
use Rattle.wb_custody.specs.Plans as custody
use Rattle.wb_model.specs.declared.act.Act.{Act}
use Rattle.wb_model.specs.declared.act.CaseFault.{CaseFault}
use Rattle.wb_model.specs.declared.act.CustodyFault.{CustodyFault}
use Rattle.wb_model.specs.declared.act.Move.{Move}
use Rattle.wb_model.specs.declared.entry.Actor.{Actor}
use Rattle.wb_model.specs.declared.entry.Entry.{Entry}
use Rattle.wb_model.specs.Access.{requests}
use Rattle.wb_model.specs.Legal.{right_actor}
use Rattle.wb_model.specs.Trails.{has_identity, expires, submission_in}
use Rattle.wb_tables.specs.Indexed.{has_dues}
use Rattle.wb_tables.specs.Lives.{case_of}
use Rattle.wb_tables.specs.declared.noting.NotedEntry.{NotedEntry}
use Rattle.wb_tables.specs.declared.tenancy.Report.{Report}

-- there is room on a report for an entry, which is by whom it may be
pub record HasRoomToNote (e : Entry) (r : Report) : Type 0 where
  pub room : 0 < r.case.spare
  pub few : needed_by e.deed ≤ 32
  pub desk : HasRoom r.desk e.deed
  pub actor : right_actor e.deed e.by ≡ true

-- the report of a number is there, with room for an entry, which is no submission
pub record IsReadyNote (n : ℕ) (e : Entry) (reports : List Report) : Type 0 where
  pub report : Report
  pub found : find (has_key nat_cmp (λ (r : Report). r.number) n) reports ≡ Some report
  pub roomy : HasRoomToNote e report
  pub later : submission_in e.deed ≡ None

-- an act was planned on a calendar: the report is as it was, but for its room
pub record IsActed (calendar : Calendar) (at : ℕ) (by : Actor) (act : Act) (old new : Report) (answer : Result Entry CaseFault) : Type 0 where
  pub items : new.case.items ≡ old.case.items
  pub desk : new.desk ≡ old.desk
  pub plan : GivesPlan calendar old.case.items at by act answer
  pub room : OnOk answer (0 < new.case.spare)
  pub few : IfOk answer (λ e. needed_by e.deed ≤ 32)

-- a move was planned
pub record IsMoved (at : ℕ) (by : Actor) (move : Move) (old new : Report) (answer : Result Entry CustodyFault) : Type 0 where
  pub items : new.case.items ≡ old.case.items
  pub requests : new.desk.items ≡ old.desk.items
  pub plan : custody.GivesPlan (length old.case.items) (has_identity old.case.items) old.desk.items at by move answer
  pub roomy : IfOk answer (λ e. HasRoomToNote e new)

-- an entry was noted, before which the report expired on one day and after which on another, and after which it has requests or none, and something is due on it or not
pub record IsNoted (e : Entry) (old new : Report) (answer : NotedEntry) : Type 0 where
  pub items : new.case.items ≡ old.case.items ++ e ∷ []
  pub requests : (before : List Entry) → old.desk.items ≡ requests before → new.desk.items ≡ requests (before ++ e ∷ [])
  pub before_is : answer.before ≡ expires old.case.items
  pub after_is : answer.after ≡ expires new.case.items
  pub asked_is : answer.has_requests ≡ not (length new.desk.items == 0)
  pub due_is : answer.has_dues ≡ has_dues (case_of new)
