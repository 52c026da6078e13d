-- What a load is in the database: the tables are made where they were not there, and each is read whole, in the order of its key.
use Rattle.std.specs.Prelude.{◌≡◌, ℕ, List, [], ◌++◌, Option, Some, None}
use Rattle.sqlite_value.specs.Order.{Row as SqlRow}
use Rattle.sqlite_trees.specs.declared.store.Store.{Ghosts}
use Rattle.sqlite.specs.Held.{Held, state}
use Rattle.sqlite.specs.State.{HasCleanDisk, Shown}
use Rattle.wb_base.specs.declared.rows.Row.{Row}
use Rattle.wb_sqlite.specs.Statements.{CommitsAll, Understands, six_texts}
use Rattle.wb_stored.specs.StoredRows.{IsRecordRow, IsSealedRow, AreInTurn}
use Rattle.wb_stored.specs.Texts.{read_record, read_sealed}
use Rattle.wb_sqlite.specs.declared.table.Table.{Table}
use Rattle.wb_sqlite.specs.declared.table.Table.TheVariants.{Record, Sealed}

-- the selection of a table's rows, and the kept row of one that it shows
abbrev pub selection_of : Table → List ℕ
selection_of Record = read_record
selection_of Sealed = read_sealed

abbrev pub IsRowOf : Table → SqlRow → Row → Type 0
IsRowOf Record = IsRecordRow
IsRowOf Sealed = IsSealedRow

-- all rows that a query shows, each as the kept row that it is, stand behind those that were read before
pub record Reads {S : Type 0} (g : Ghosts S) (IsOf : SqlRow → Row → Type 0) (text : List ℕ) (old new : Held S) (before after : List Row) : Type 0 where
  pub shown : List SqlRow
  pub added : List Row
  pub from : Held S
  pub to : Held S
  pub answer : Shown text [] (state g from) (state g to) shown
  pub over : (state g from).now ≡ (state g old).now
  pub left : (state g new).now ≡ (state g to).now
  pub each : AreInTurn IsOf shown added
  pub behind : after ≡ before ++ added

-- the tables were made where they were not there, and committed; all statements are understood over them; then each was read whole. The rows are all of `record`, and all of `sealed` at
-- one place between them
pub record LoadsAll {S : Type 0} (g : Ghosts S) (old new : Held S) (rows : List Row) : Type 0 where
  pub made : Held S
  pub tables : CommitsAll g [] old made
  pub understood : Understands g made six_texts
  pub low : List Row
  pub sealed : List Row
  pub high : List Row
  pub mid : Held S
  pub first : Reads g (IsRowOf Record) (selection_of Record) made mid [] (low ++ high)
  pub then : Reads g (IsRowOf Sealed) (selection_of Sealed) mid new [] sealed
  pub whole : rows ≡ low ++ sealed ++ high

-- the same of a file that is open since: it held what was read, while the disk is clean
abbrev pub LoadsOpen : {S : Type 0} → Ghosts S → Option (Held S) → List Row → Type 0
LoadsOpen {S} g (Some now) rows = HasCleanDisk (state g now) → (old : Held S) × LoadsAll g old now rows
LoadsOpen g None rows = ⊥
