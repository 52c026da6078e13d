-- Moves with requests for an identity: what refuses each, and the deed that it is.
use Rattle.std.specs.Prelude.{ℕ, ◌+◌, ◌*◌, ◌==◌, ◌&&◌, nat_le, not, Bool, if◌then◌else◌, List, [], ◌∷◌, length, Option, Some, None}
use Rattle.std.specs.Option.{option_or}
use Rattle.wb_model.specs.declared.access.State.{State}
use Rattle.wb_model.specs.declared.access.AccessRequest.{AccessRequest}
use Rattle.wb_model.specs.declared.act.Move.{Move}
use Rattle.wb_model.specs.declared.act.Move.TheVariants as moves
use Rattle.wb_model.specs.declared.act.CustodyFault.{CustodyFault}
use Rattle.wb_model.specs.declared.act.CustodyFault.TheVariants as faults
use Rattle.wb_model.specs.declared.entry.Deed.{Deed}
use Rattle.wb_model.specs.declared.entry.Deed.TheVariants as deeds
use Rattle.wb_model.specs.Access.{state_now, is_granted, is_waiting, request_at}
use Rattle.wb_model.specs.Acts.{is_full}
use Rattle.wb_model.specs.Refusing.{refuses_where}

-- ---- rules

-- the first request of this user that waits, where they are numbered from this number on
abbrev pub pending_from : ℕ → ℕ → ℕ → List AccessRequest → Option CustodyFault
pending_from id user stamp [] = None
pending_from id user stamp (r ∷ rs) = if (r.by == user) && is_waiting (state_now stamp r) then Some (faults.Pending id) else pending_from (id + 1) user stamp rs

abbrev pub pending : ℕ → ℕ → List AccessRequest → Option CustodyFault
pending user stamp requests = pending_from 1 user stamp requests

abbrev pub desk_full : List AccessRequest → Option CustodyFault
desk_full requests = refuses_where (nat_le 100 (length requests)) faults.DeskFull

abbrev pub full : ℕ → Option CustodyFault
full entries = refuses_where (is_full entries) faults.TrailFull

-- the request is not there, or it has not the state that a move needs
abbrev pub unless_state : (State → Bool) → (State → CustodyFault) → ℕ → Option AccessRequest → Option CustodyFault
unless_state is_right fault stamp None = Some faults.NoSuchRequest
unless_state is_right fault stamp (Some r) = if is_right (state_now stamp r) then None else Some (fault (state_now stamp r))

abbrev pub decided : ℕ → ℕ → List AccessRequest → Option CustodyFault
decided k stamp requests = unless_state is_waiting (λ state. faults.Decided state) stamp (request_at k requests)

abbrev pub not_granted : ℕ → ℕ → List AccessRequest → Option CustodyFault
not_granted k stamp requests = unless_state is_granted (λ state. faults.NotGranted state) stamp (request_at k requests)

-- ---- the table of moves

-- what refuses a user's move, on a trail of so many entries that has an identity or not, and these requests
abbrev pub custody_fault : ℕ → Bool → List AccessRequest → ℕ → Move → Option CustodyFault
custody_fault entries mark requests user (moves.Ask reason stamp) = option_or (refuses_where (not mark) faults.NoIdentity) (option_or (pending user stamp requests) (option_or (desk_full requests) (full entries)))
custody_fault entries mark requests user (moves.Grant request stamp notice_days reason withheld) = option_or (decided request stamp requests) (full entries)
custody_fault entries mark requests user (moves.Deny request stamp reason) = decided request stamp requests
custody_fault entries mark requests user (moves.Revoke request stamp reason) = not_granted request stamp requests

-- the moment from which on a grant is in force: at once where the notice is withheld
abbrev pub effective : ℕ → ℕ → Option (List ℕ) → ℕ
effective now notice_days None = now + 86_400 * notice_days
effective now notice_days (Some withheld) = now

-- the deed that a move is, at a moment
abbrev pub move_deed : ℕ → Move → Deed
move_deed now (moves.Ask reason stamp) = deeds.Asked reason stamp
move_deed now (moves.Grant request stamp notice_days reason withheld) = deeds.Granted (effective now notice_days withheld) reason request withheld
move_deed now (moves.Deny request stamp reason) = deeds.Denied reason request
move_deed now (moves.Revoke request stamp reason) = deeds.Revoked reason request
