-- What a kept entry's days are, by the day of its moment; and the act or move that it was, as far as the report's rules look at it.
use Rattle.std.specs.Prelude.{◌≡◌, ℕ, nat_le, ◌&&◌, ◌||◌, not, Bool, true, false, List, Option, Some, None, ℤ, int_lt}
use Rattle.std.specs.Ordering.{int_eq}
use Rattle.wb_base.specs.Calendars.{Calendar}
use Rattle.wb_base.specs.Terms as terms
use Rattle.wb_model.specs.declared.access.AccessRequest.{AccessRequest}
use Rattle.wb_model.specs.declared.act.Act.{Act}
use Rattle.wb_model.specs.declared.act.Move.{Move}
use Rattle.wb_custody.specs.Desks.{Desk, HasRoom}
use Rattle.wb_model.specs.declared.entry.Actor.{Actor}
use Rattle.wb_model.specs.declared.entry.Deed.{Deed}
use Rattle.wb_model.specs.declared.entry.Entry.{Entry}
use Rattle.wb_model.specs.Acts.{case_fault}
use Rattle.wb_model.specs.Doings.{Doing, Acts, Moves}
use Rattle.wb_model.specs.Legal.{Reckoning, is_within, is_reporter, right_actor, right_values}
use Rattle.wb_model.specs.Moves.{custody_fault, move_deed}

-- ---- days

-- the days of a submission
abbrev pub right_days : Calendar → ℤ → ℤ → ℤ → ℤ → ℤ → Bool
right_days calendar today on_day ack feedback until = int_eq on_day today && int_eq ack (terms.ack_due today calendar) && int_eq feedback (terms.feedback_due today None false calendar) && is_within today 1 3_650 until

-- the days of an acknowledgement, where the time for feedback was extended or not
abbrev pub right_acknowledgement : Calendar → Bool → ℤ → ℤ → ℤ → Bool
right_acknowledgement calendar extended today day feedback = int_eq day today && int_eq feedback (terms.feedback_due today (Some day) extended calendar)

-- the day of a postponement, after one before
abbrev pub right_postponement : ℤ → ℤ → ℤ → Bool
right_postponement today before until = not (int_lt until before) && (int_eq until before || not (int_lt (terms.expiry today 3_650) until))

-- an entry is not before a moment, is by whom it may be, and has right days and readers
abbrev pub is_fit_after : Reckoning → ℕ → List Entry → Entry → Bool
is_fit_after days time trail e = nat_le time e.at && right_actor e.deed e.by && right_values days trail e.at e.deed

-- ---- doings

-- nothing in the report refuses one act where nothing refuses the other
abbrev pub IsActLike : Option Doing → Option Act → Type 0
IsActLike (Some (Acts act)) (Some other) = (trail : List Entry) → case_fault trail act ≡ case_fault trail other
IsActLike (Some (Acts act)) None = ⊥
IsActLike (Some (Moves move)) (Some other) = ⊥
IsActLike (Some (Moves move)) None = Unit {0}
IsActLike None (Some other) = ⊥
IsActLike None None = Unit {0}

-- nothing in the report with these requests refuses one move where nothing refuses the other
abbrev pub IsMoveLike : List AccessRequest → Option Doing → Option Move → Type 0
IsMoveLike asked (Some (Moves move)) (Some other) = (entries : ℕ) (mark : Bool) (user : ℕ) → custody_fault entries mark asked user move ≡ custody_fault entries mark asked user other
IsMoveLike asked (Some (Moves move)) None = ⊥
IsMoveLike asked (Some (Acts act)) (Some other) = ⊥
IsMoveLike asked (Some (Acts act)) None = Unit {0}
IsMoveLike asked None (Some other) = ⊥
IsMoveLike asked None None = Unit {0}

-- a desk has room for a deed where it has it for the move that the deed is like
abbrev pub IsRoomLike : Option Move → Deed → Type 0
IsRoomLike (Some move) deed = (at : ℕ) (desk : Desk) → HasRoom desk (move_deed at move) → HasRoom desk deed
IsRoomLike None deed = (desk : Desk) → HasRoom desk deed

-- whoever may have done it is a user
abbrev pub IsOfUsers : Option Move → Deed → Type 0
IsOfUsers (Some move) deed = (by : Actor) → right_actor deed by ≡ true → is_reporter by ≡ false
IsOfUsers None deed = Unit {0}
