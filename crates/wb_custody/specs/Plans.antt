-- What a plan of a move is.
use Rattle.std.specs.Prelude.{◌≡◌, ℕ, Bool, List, Some, None, Result, Ok, Err, length}
use Rattle.wb_model.specs.declared.access.AccessRequest.{AccessRequest}
use Rattle.wb_model.specs.declared.act.Move.{Move}
use Rattle.wb_model.specs.declared.act.CustodyFault.{CustodyFault}
use Rattle.wb_model.specs.declared.act.CustodyFault.TheVariants as faults
use Rattle.wb_model.specs.declared.entry.Actor.{Actor}
use Rattle.wb_model.specs.declared.entry.Entry.{Entry}
use Rattle.wb_model.specs.Access.{user_by, requests}
use Rattle.wb_model.specs.Moves.{custody_fault, move_deed}
use Rattle.wb_model.specs.Trails.{has_identity}

-- the entry of a move, on a trail of so many entries that has an identity or not, and these requests; or the first rule that refuses it
abbrev pub IsPlanned : ℕ → Bool → List AccessRequest → ℕ → Actor → Move → Result Entry CustodyFault → Type 0
IsPlanned entries mark requests at by move (Ok entry) = (custody_fault entries mark requests (user_by by) move ≡ None) × (entry ≡ record { at = at; by = by; deed = move_deed at move })
IsPlanned entries mark requests at by move (Err fault) = custody_fault entries mark requests (user_by by) move ≡ Some fault

-- the same, or memory is wanted for a move that nothing refuses
abbrev pub GivesPlan : ℕ → Bool → List AccessRequest → ℕ → Actor → Move → Result Entry CustodyFault → Type 0
GivesPlan entries mark requests at by move (Err faults.Memory) = custody_fault entries mark requests (user_by by) move ≡ None
GivesPlan entries mark requests at by move result = IsPlanned entries mark requests at by move result

-- a trail of so many entries, which has an identity or not, with these requests
abbrev pub IsTrailOf : List AccessRequest → ℕ → Bool → List Entry → Type 0
IsTrailOf asked entries mark trail = (requests trail ≡ asked) × (length trail ≡ entries) × (has_identity trail ≡ mark)
