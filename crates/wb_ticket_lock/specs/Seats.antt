-- A lock and its seats, as contracts see them.
use Rattle.std.specs.Prelude.{ℕ, List}
use Rattle.atomic_table.specs.Seated.{TableId}
use Rattle.wb_ticket_lock.specs.declared.entry.Entry.{Entry}

-- a lock: which one it is, how many seats it has, and the value that it began with
pub record Locked (X : Type 0) : Type 0 where
  pub id : TableId
  pub seats : ℕ
  pub first : X

-- a seat: at which lock, and the entries of its own calls in their order
pub record Seated (X D : Type 0) : Type 0 where
  pub lock : TableId
  pub mine : List (Entry X D)
