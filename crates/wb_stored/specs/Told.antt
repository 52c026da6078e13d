-- Which rows a database tells: those that its two tables store.
use Rattle.std.specs.Prelude.{◌≡◌, ◌≢◌, ◌⊎◌, ◌↔◌, ℤ, pos, List, [], ◌∷◌, IsTrue}
use Rattle.sqlite_value.specs.declared.value.Value.TheVariants.{Int, Text}
use Rattle.sqlite_value.specs.Order.{Row as SqlRow}
use Rattle.sqlite_trees.specs.Tree.{Trees, IsTable}
use Rattle.sqlite_schema.specs.declared.schema.Schema.{Schema}
use Rattle.sqlite_rules.specs.Lists.{Has}
use Rattle.sqlite.specs.Effect.{Database, IsDatabase}
use Rattle.sqlite.specs.State.{State, HasCleanDisk}
use Rattle.wb_list.specs.Keyed.{IsAscending}
use Rattle.wb_base.specs.declared.rows.Row.{Row}
use Rattle.wb_base.specs.KeptRows.{key_cmp, key_of}
use Rattle.wb_stored.specs.Tables.{no_schema, record_schema, sealed_schema, both_schema, turned_schema}

-- a kept row as `record` stores it, behind its rowid, and as `sealed` does
abbrev pub stored_record : ℤ → Row → SqlRow
stored_record id row = Int id ∷ Int (pos row.key.kind) ∷ Int (pos row.key.tenant) ∷ Int (pos row.key.a) ∷ Int (pos row.key.b) ∷ Text row.text ∷ []

abbrev pub stored_sealed : ℤ → Row → SqlRow
stored_sealed id row = Int id ∷ Int (pos row.key.tenant) ∷ Int (pos row.key.a) ∷ Text row.text ∷ []

-- `record` has all kinds but 7, and `sealed` has kind 7
abbrev pub IsOfRecord : Row → Type 0
IsOfRecord row = row.key.kind ≢ 7

abbrev pub IsOfSealed : Row → Type 0
IsOfSealed row = (row.key.kind ≡ 7) × (row.key.b ≡ 0)

-- the rows stand by rising rowid, and each is a kept row
pub record IsKept (stored : ℤ → Row → SqlRow) (IsOf : Row → Type 0) (table : List SqlRow) : Type 0 where
  pub rising : IsTable table
  pub each : (cells : SqlRow) → Has table cells → (id : ℤ) × (row : Row) × IsOf row × (cells ≡ stored id row)

-- the table stores the row
abbrev pub Stores : (ℤ → Row → SqlRow) → (Row → Type 0) → List SqlRow → Row → Type 0
Stores stored IsOf table row = (id : ℤ) × IsOf row × Has table (stored id row)

-- each of the two tables is as it was made, or is not there and counts as empty; there is nothing else
abbrev pub HasTables : Database → List SqlRow → List SqlRow → Type 0
HasTables db records sealed =
    ((db.schema ≡ no_schema) × (records ≡ []) × (sealed ≡ []))
    ⊎ (((db.schema ≡ record_schema) × (records ≡ db.trees 0) × (sealed ≡ []))
    ⊎ (((db.schema ≡ sealed_schema) × (records ≡ []) × (sealed ≡ db.trees 0))
    ⊎ (((db.schema ≡ both_schema) × (records ≡ db.trees 0) × (sealed ≡ db.trees 2))
    ⊎ ((db.schema ≡ turned_schema) × (records ≡ db.trees 2) × (sealed ≡ db.trees 0)))))

-- these rows, by ascending key, are all that two tables store
pub record AreTold (records sealed : List SqlRow) (rows : List Row) : Type 0 where
  pub record_kept : IsKept stored_record IsOfRecord records
  pub sealed_kept : IsKept stored_sealed IsOfSealed sealed
  pub ascending : IsAscending key_cmp key_of rows
  pub each : (row : Row) → Has rows row ↔ (Stores stored_record IsOfRecord records row ⊎ Stores stored_sealed IsOfSealed sealed row)

-- the rows that a database tells, which obeys its own schema, so that no key stands twice
pub record Tells (db : Database) (rows : List Row) : Type 0 where
  pub sound : IsDatabase db
  pub records : List SqlRow
  pub sealed : List SqlRow
  pub tables : HasTables db records sealed
  pub told : AreTold records sealed rows

-- a connection tells what it last committed, and nothing is left open
pub record HoldsRows (s : State) (rows : List Row) : Type 0 where
  pub settled : s.now ≡ s.committed
  pub told : Tells s.now rows

-- the store has answered truly so far, and still serves
abbrev pub IsHonest : State → Type 0
IsHonest s = HasCleanDisk s × IsTrue s.is_open

-- trees that tell these rows under the schema that they list, such as a crash may leave
abbrev pub LeavesRows : Trees → List Row → Type 0
LeavesRows db rows = (schema : Schema) × Tells (record { schema = schema; trees = db }) rows
