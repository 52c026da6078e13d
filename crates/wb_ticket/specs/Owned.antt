-- Seats of a gate, and the entries of its host, as contracts see them.
use Rattle.std.specs.Prelude.{◌≡◌, ◌++◌, List, [], ◌∷◌}
use Rattle.atomic_table.specs.Seated.{TableId}
use Rattle.wb_model.specs.declared.body.Told.{Told}
use Rattle.wb_model.specs.Requests.{Frame}
use Rattle.wb_desk.specs.Hosted.{Hosted, Hand}
use Rattle.wb_desk.specs.Turned.{Turned}
use Rattle.wb_desk.specs.Jobs.{IsAsked}
use Rattle.wb_ticket_lock.specs.declared.entry.Entry.{Entry}

-- what was asked at a moment with random words, and what was told
abbrev pub AskedAndTold : Type 0
AskedAndTold = Frame × Told

-- a turn that some bytes ask, of a host in which this pass took part
abbrev pub IsAskedTurn : Frame → Hosted → Hand → Hosted → Hand → Told → Type 0
IsAskedTurn f host pass host' pass' told = IsAsked f.asked × Turned f host pass host' pass' told

-- such a turn of the host, in which some pass took part
abbrev pub IsTurnOf : Hosted → AskedAndTold → Hosted → Type 0
IsTurnOf host a host' = (pass : Hand) × (pass' : Hand) × IsAskedTurn a.0 host pass host' pass' a.1

-- a turn in its place: the host before it, what was asked and told, and the host after it
abbrev pub TurnEntry : Type 0
TurnEntry = Entry Hosted AskedAndTold

abbrev pub answered : List TurnEntry → List AskedAndTold
answered [] = []
answered (e ∷ es) = e.deed ∷ answered es

-- a seat: of which gate, with which pass, and the entries of its own turns in their order
pub record Owned : Type 0 where
  pub gate : TableId
  pub hand : Hand
  pub mine : List TurnEntry

-- a turn that is the next entry of a seat of one gate, and in which its pass took part
abbrev pub IsNextEntry : Owned → Frame → Told → Owned → Type 0
IsNextEntry own f told own' = (e : TurnEntry) × (own'.mine ≡ own.mine ++ e ∷ []) × (e.deed ≡ (f, told)) × Turned f e.before own.hand e.after own'.hand told
