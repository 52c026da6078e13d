-- What is done on a report: an act, or a move with the requests for its identity.
use Rattle.std.specs.Prelude.{ℕ, ◌+◌, ◌&&◌, Bool, false, List, length, Option, option_map}
use Rattle.std.specs.Option.{option_map_or}
use Rattle.wb_base.specs.declared.callers.Role.TheVariants as roles
use Rattle.wb_base.specs.Calendars.{Calendar}
use Rattle.wb_model.specs.declared.act.Act.{Act}
use Rattle.wb_model.specs.declared.act.Move.{Move}
use Rattle.wb_model.specs.declared.act.Move.TheVariants as moves
use Rattle.wb_model.specs.declared.body.Told.{Told}
use Rattle.wb_model.specs.declared.command.Decision.{Decision}
use Rattle.wb_model.specs.declared.command.Decision.TheVariants as decisions
use Rattle.wb_model.specs.declared.entry.Actor.{Actor}
use Rattle.wb_model.specs.declared.entry.Actor.TheVariants as actors
use Rattle.wb_model.specs.declared.entry.Entry.{Entry}
use Rattle.wb_model.specs.declared.entry.Deed.{Deed}
use Rattle.wb_model.specs.declared.registry.ContextItem.{ContextItem}
use Rattle.wb_model.specs.declared.registry.UserItem.{UserItem}
use Rattle.wb_model.specs.Access.{requests}
use Rattle.wb_model.specs.Trails.{has_identity}
use Rattle.wb_model.specs.Tables.{Who, TheUser, TheReporter, user, same_role}
use Rattle.wb_model.specs.Json.{told}
use Rattle.wb_model.specs.Faults.{case_told, custody_told}
use Rattle.wb_model.specs.ShortViews.{done_view, request_view}
use Rattle.wb_model.specs.Acts.{case_fault, act_deed, act_status}
use Rattle.wb_model.specs.Moves.{custody_fault, move_deed}

pub data Doing : Type 0 where
  Acts : Act → Doing
  Moves : Move → Doing

-- ---- what it needs of the registry

-- an enabled recipient
abbrev pub may_read : Option UserItem → Bool
may_read x = option_map_or (λ (y : UserItem). y.enabled && same_role y.role roles.Recipient) x false

abbrev pub retention_of : Option ContextItem → ℕ
retention_of c = option_map_or (λ x. x.retention) c 0

-- the move of a decision on a request whose asker was disabled so often by now
abbrev pub decision_move : ℕ → ℕ → ℕ → List ℕ → Option (List ℕ) → Decision → Move
decision_move k stamp notice_days reason withhold decisions.Grant = moves.Grant k stamp notice_days reason withhold
decision_move k stamp notice_days reason withhold decisions.Deny = moves.Deny k stamp reason
decision_move k stamp notice_days reason withhold decisions.Revoke = moves.Revoke k stamp reason

-- ---- what refuses it

abbrev pub doing_fault : List Entry → ℕ → Doing → Option Told
doing_fault trail user (Acts act) = option_map case_told (case_fault trail act)
doing_fault trail user (Moves move) = option_map custody_told (custody_fault (length trail) (has_identity trail) (requests trail) user move)

-- ---- the entry that it makes

abbrev pub doing_deed : Calendar → ℕ → List Entry → Doing → Deed
doing_deed calendar time trail (Acts act) = act_deed calendar trail act
doing_deed calendar time trail (Moves move) = move_deed time move

abbrev pub actor_of : Who → Actor
actor_of (TheUser u) = actors.User u
actor_of (TheReporter n) = actors.Reporter

abbrev pub doing_entry : Calendar → ℕ → Who → List Entry → Doing → Entry
doing_entry calendar time who trail d = record { at = time; by = actor_of who; deed = doing_deed calendar time trail d }

-- ---- the reply to it

-- of a request for an identity its number, which is the next
abbrev pub move_told : List Entry → Move → Told
move_told trail (moves.Ask reason stamp) = told 201 (request_view (length (requests trail) + 1))
move_told trail (moves.Grant request stamp notice_days reason withheld) = told 201 done_view
move_told trail (moves.Deny request stamp reason) = told 201 done_view
move_told trail (moves.Revoke request stamp reason) = told 201 done_view

abbrev pub doing_told : List Entry → Doing → Told
doing_told trail (Acts act) = told (act_status act) done_view
doing_told trail (Moves move) = move_told trail move
