-- A keeper owns its file, its connection and its count, so it may go to another thread.
use Prim.Native.Nat.{ℕ}
use mir.Syntax.{Ty}
use denote.Exit.{Kept}
use denote.Param.{param, arg}
use denote.Param.Send.{IsSend, arg_send, param_send, sendable}
use Rattle.std.proofs.Crossing.{crosses}
use Rattle.wb_sqlite.proofs.SentConnection.{connection_send}
use Rattle.wb_sqlite.proofs.SentStore.{host_send, store_send}
use Rattle.wb_sqlite.specs.contracts.path_keeper.PathKeeper.{the_row}

pub keeper_send : IsSend the_row
keeper_send = search (host_send, store_send, connection_send, sendable, crosses) depth 40

-- The same of the keeper as an argument, in place of a type parameter of the function that is called.
pub keeper_send_as_argument : (i : ℕ) (δ : Ty) (k : Kept) → IsSend (param i (arg δ k the_row))
keeper_send_as_argument i δ k = param_send i (arg δ k the_row) (arg_send δ k the_row keeper_send)
