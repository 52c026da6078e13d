-- No rule of moves tells want of memory.
use Rattle.std.proofs.Common.{◌≡◌, ℕ, ◌+◌, Bool, true, false, cond, List, [], ◌∷◌, length, Option, Some, None, Err, refl, sym, ap, ◌∙◌, arith}
use Rattle.std.specs.Prelude.{◌==◌, ◌&&◌, not, nat_le}
use Rattle.std.specs.Option.{option_or}
use Rattle.wb_model.specs.declared.access.AccessRequest.{AccessRequest}
use Rattle.wb_model.specs.declared.act.Move.{Move}
use Rattle.wb_model.specs.declared.act.Move.TheVariants as moves
use Rattle.wb_model.specs.declared.act.CustodyFault.{CustodyFault}
use Rattle.wb_model.specs.declared.act.CustodyFault.TheVariants as faults
use Rattle.wb_model.specs.declared.entry.Actor.{Actor}
use Rattle.wb_model.specs.Access.{user_by, state_now, is_waiting, is_granted, request_at}
use Rattle.wb_model.specs.Acts.{is_full}
use Rattle.wb_model.specs.Moves.{pending_from, pending, desk_full, full, unless_state, decided, custody_fault}
use Rattle.wb_model.specs.Refusing.{refuses_where}
use Rattle.wb_custody.specs.Plans.{GivesPlan}

abbrev is_memory : Option CustodyFault → Bool
is_memory (Some faults.Memory) = true
is_memory _ = false

either : (a b : Option CustodyFault) → is_memory a ≡ false → is_memory b ≡ false → is_memory (option_or a b) ≡ false
either None b e f = f
either (Some x) b e f = e

where_so : (b : Bool) (fault : CustodyFault) → is_memory (Some fault) ≡ false → is_memory (refuses_where b fault) ≡ false
where_so true fault e = e
where_so false fault e = refl

picked : (b : Bool) (fault : CustodyFault) (o : Option CustodyFault) → is_memory (Some fault) ≡ false → is_memory o ≡ false → is_memory (cond b (Some fault) o) ≡ false
picked true fault o e f = e
picked false fault o e f = f

pending_not : (id user stamp : ℕ) (rs : List AccessRequest) → is_memory (pending_from id user stamp rs) ≡ false
pending_not id user stamp [] = refl
pending_not id user stamp (r ∷ rs) = picked ((r.by == user) && is_waiting (state_now stamp r)) (faults.Pending id) (pending_from (id + 1) user stamp rs) refl (pending_not (id + 1) user stamp rs)

decided_not : (stamp : ℕ) (o : Option AccessRequest) → is_memory (unless_state is_waiting (λ state. faults.Decided state) stamp o) ≡ false
decided_not stamp None = refl
decided_not stamp (Some r) = of (is_waiting (state_now stamp r))
  where
    of : (b : Bool) → is_memory (cond b None (Some (faults.Decided (state_now stamp r)))) ≡ false
    of true = refl
    of false = refl

granted_not : (stamp : ℕ) (o : Option AccessRequest) → is_memory (unless_state is_granted (λ state. faults.NotGranted state) stamp o) ≡ false
granted_not stamp None = refl
granted_not stamp (Some r) = of (is_granted (state_now stamp r))
  where
    of : (b : Bool) → is_memory (cond b None (Some (faults.NotGranted (state_now stamp r)))) ≡ false
    of true = refl
    of false = refl

never : (entries : ℕ) (mark : Bool) (requests : List AccessRequest) (user : ℕ) (move : Move) → is_memory (custody_fault entries mark requests user move) ≡ false
never entries mark requests user (moves.Ask reason stamp) =
    either (refuses_where (not mark) faults.NoIdentity) (option_or (pending user stamp requests) (option_or (desk_full requests) (full entries))) (where_so (not mark) faults.NoIdentity refl)
    (either (pending user stamp requests) (option_or (desk_full requests) (full entries)) (pending_not 1 user stamp requests)
    (either (desk_full requests) (full entries) (where_so (nat_le 100 (length requests)) faults.DeskFull refl) (where_so (is_full entries) faults.TrailFull refl)))
never entries mark requests user (moves.Grant request stamp notice_days reason withheld) =
    either (decided request stamp requests) (full entries) (decided_not stamp (request_at request requests)) (where_so (is_full entries) faults.TrailFull refl)
never entries mark requests user (moves.Deny request stamp reason) = decided_not stamp (request_at request requests)
never entries mark requests user (moves.Revoke request stamp reason) = granted_not stamp (request_at request requests)

-- so a refusal is what the plan gives
pub gives_refusal : (entries : ℕ) (mark : Bool) (requests : List AccessRequest) (at : ℕ) (by : Actor) (move : Move) (fault : CustodyFault) → custody_fault entries mark requests (user_by by) move ≡ Some fault → GivesPlan entries mark requests at by move (Err fault)
gives_refusal entries mark requests at by move faults.Memory e = let no = sym (never entries mark requests (user_by by) move) ∙ ap is_memory e in absurd (grind (arith, no))
gives_refusal entries mark requests at by move fault e = e
