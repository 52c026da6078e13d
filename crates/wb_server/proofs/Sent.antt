-- A gate with tickets may be shared by threads, and its seats may go to them, where the keeper may.
use Prim.Native.Nat.{ℕ}
use mir.Syntax.{Ty}
use denote.RattleType.{RattleType}
use denote.Exit.{Kept as KeptAt}
use denote.Param.{param, arg}
use denote.Param.Send.{IsSend, IsSync, arg_send, arg_sync, param_send, param_sync, recorded_send, recorded_sync, sendable, struct_send, struct_sync, view_send, view_sync}
use denote.Struct.Declared.{shape}
use Rattle.std.proofs.Crossing.{crosses}
use Rattle.std.specs.declared.sync.ledger.Ledger as Ledger
use Rattle.wb_base.specs.declared.outside.Keeper as Keeper
use Rattle.wb_desk.specs.declared.origin.Origin as Origin
use Rattle.wb_desk.specs.contracts.kept.Kept as Kept
use Rattle.wb_desk.specs.contracts.pass.Pass as Pass
use Rattle.wb_desk.proofs.kept.Kept.TheSendSync as kept
use Rattle.wb_desk.proofs.pass.Pass.TheSendSync as pass
use Rattle.wb_desk.specs.contracts.job.Turn as Turn
use Rattle.wb_model.specs.contracts.body.Told as Told
use Rattle.wb_ticket_lock.specs.contracts.deed.ByWork as ByWork
use Rattle.wb_ticket_lock.specs.contracts.deed.ByWorkTransitionDeed.TheImpl as ByDeeds
use Rattle.wb_ticket_lock.specs.contracts.deed.Deed as Deed
use Rattle.wb_ticket.specs.contracts.turns.Turns as Turns
use Rattle.wb_ticket.specs.contracts.turns.TurnsWorkKeptPassTurnTold.TheImpl as OfTurns
use Rattle.wb_ticket_lock.proofs.lock.TicketLock.TheSendSync as lock
use Rattle.wb_ticket_lock.proofs.seat.LockSeat.TheSendSync as seat
use Rattle.wb_ticket.specs.contracts.gate.TicketGate as Gate
use Rattle.wb_ticket.specs.contracts.gate.TicketGate.TheInside as GateInside
use Rattle.wb_ticket.specs.contracts.seat.TicketSeat as Seat
use Rattle.wb_ticket.specs.contracts.seat.TicketSeat.TheInside as SeatInside

deed_send : (J A : RattleType) → IsSend (Deed.the_row J A)
deed_send J A = search (sendable, crosses) depth 20

module _ (K A B : RattleType) (k : Keeper.Ghosts K.Denot) (o : Origin.Ghosts A.Denot) (a : Ledger.Ghosts A.Denot) (b : Ledger.Ghosts B.Denot) where
  pub seat_send : IsSend K → IsSend (Seat.the_row K A B k o a b)
  seat_send s =
      view_send (SeatInside.the_row K A B k o a b) _ _ _ _
      (recorded_send (SeatInside.the_field K A B k o a b).row _ _ (SeatInside.the_type K A B k o a b).to_one
      (struct_send (shape (SeatInside.the_type K A B k o a b)) (seat.the_send (Kept.the_row K A B k o a b) (Deed.the_row Turn.the_row Told.the_row) (kept.the_send K A B k o a b s) (deed_send Turn.the_row Told.the_row), (pass.the_send A B a b, tt))))

  pub gate_sync : IsSend K → IsSync (Gate.the_row K A B k o a b)
  gate_sync s =
      view_sync (GateInside.the_row K A B k o a b) _ _ _ _
      (recorded_sync (GateInside.the_field K A B k o a b).row _ _ (GateInside.the_type K A B k o a b).to_one
      (struct_sync (shape (GateInside.the_type K A B k o a b)) (
        lock.the_sync (Kept.the_row K A B k o a b) (Deed.the_row Turn.the_row Told.the_row) (ByWork.the_row Turns.the_row (Pass.the_row A B a b))
            (ByDeeds.ghosts (Kept.the_row K A B k o a b) (Pass.the_row A B a b) Turn.the_row Told.the_row Turns.the_row (OfTurns.ghosts K A B k OfTurns.no_dict o OfTurns.no_dict a OfTurns.no_dict b OfTurns.no_dict OfTurns.no_dict) ByDeeds.no_dict)
            (kept.the_send K A B k o a b s) (deed_send Turn.the_row Told.the_row),
        tt,
      )))

  -- the same of them as arguments, in place of a type parameter of the function that is called
  pub seat_send_as_argument : (i : ℕ) (δ : Ty) (l : KeptAt) → IsSend K → IsSend (param i (arg δ l (Seat.the_row K A B k o a b)))
  seat_send_as_argument i δ l s = param_send i (arg δ l (Seat.the_row K A B k o a b)) (arg_send δ l (Seat.the_row K A B k o a b) (seat_send s))

  pub gate_sync_as_argument : (i : ℕ) (δ : Ty) (l : KeptAt) → IsSend K → IsSync (param i (arg δ l (Gate.the_row K A B k o a b)))
  gate_sync_as_argument i δ l s = param_sync i (arg δ l (Gate.the_row K A B k o a b)) (arg_sync δ l (Gate.the_row K A B k o a b) (gate_sync s))
