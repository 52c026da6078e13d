-- What a batch of changes is in the database: its statements in turn, in one transaction.
use Rattle.std.specs.Prelude.{◌≡◌, ◌⊎◌, ℕ, pos, List, [], ◌∷◌, ◌++◌, All, Option, Some, None, Result, Ok, IsOk, OnOk, OnErr, IsTrue, ◌==◌, if◌then◌else◌, true, ⊤}
use Rattle.sqlite_value.specs.declared.value.Value.TheVariants.{Int, Text}
use Rattle.sqlite_value.specs.Order.{Row as SqlRow}
use Rattle.sqlite_trees.specs.declared.store.Store.{Ghosts}
use Rattle.sqlite_trees.specs.Tree.{Trees}
use Rattle.sqlite.specs.Held.{Held, state}
use Rattle.sqlite.specs.Listing.{understood}
use Rattle.sqlite.specs.State.{ExecutesInside, IsUnchanged, HasCleanDisk, KeepsCommit, Survives}
use Rattle.wb_base.specs.declared.rows.Row.{Row}
use Rattle.wb_base.specs.declared.rows.Change.{Change}
use Rattle.wb_base.specs.declared.rows.Change.TheVariants.{Put, DropReport}
use Rattle.wb_base.specs.KeptRows.{all_changed}
use Rattle.wb_stored.specs.Told.{LeavesRows}
use Rattle.wb_stored.specs.Texts as sql

-- a statement, its parameters, and the statement with these parameters that is tried first, if there is one
pub record Statement : Type 0 where
  pub tried : Option (List ℕ)
  pub text : List ℕ
  pub given : SqlRow

-- the two tables
abbrev pub make_record : Statement
make_record = record { tried = None; text = sql.make_record; given = [] }

abbrev pub make_sealed : Statement
make_sealed = record { tried = None; text = sql.make_sealed; given = [] }

abbrev pub make_tables : List Statement
make_tables = make_record ∷ make_sealed ∷ []

-- the text under a row's key
abbrev pub put_record : Row → Statement
put_record row = record {
  tried = None;
  text = sql.put_record;
  given = Int (pos row.key.kind) ∷ Int (pos row.key.tenant) ∷ Int (pos row.key.a) ∷ Int (pos row.key.b) ∷ Text row.text ∷ [];
}

-- an entry of a trail is new as a rule, and so are sealed answers: the row is inserted, and only where that is refused it is set
abbrev pub put_entry : Row → Statement
put_entry row = record (put_record row) { tried = Some sql.insert_record }

abbrev pub put_sealed : Row → Statement
put_sealed row = record {
  tried = Some sql.insert_sealed;
  text = sql.put_sealed;
  given = Int (pos row.key.tenant) ∷ Int (pos row.key.a) ∷ Text row.text ∷ [];
}

-- a statement on a report: its trail, and its sealed answers
abbrev pub on_report : List ℕ → ℕ → ℕ → Statement
on_report text tenant number = record { tried = None; text = text; given = Int (pos tenant) ∷ Int (pos number) ∷ [] }

abbrev pub drop_trail : ℕ → ℕ → Statement
drop_trail = on_report sql.drop_trail

abbrev pub drop_sealed : ℕ → ℕ → Statement
drop_sealed = on_report sql.drop_sealed

-- the statements of a change
abbrev pub statements_of : Change → List Statement
statements_of (Put row) = (if row.key.kind == 7 then put_sealed row else (if row.key.kind == 6 then put_entry row else put_record row)) ∷ []
statements_of (DropReport tenant number) = drop_trail tenant number ∷ drop_sealed tenant number ∷ []

-- the statements of changes in turn
abbrev pub all_statements : List Change → List Statement
all_statements [] = []
all_statements (change ∷ changes) = statements_of change ++ all_statements changes

-- a text was run inside a transaction
abbrev pub Ran : {S : Type 0} → Ghosts S → List ℕ → SqlRow → Held S → Held S → Type 0
Ran g text given old new = (count : ℕ) × ExecutesInside 0 text given (state g old) (state g new) (Ok count)

-- a statement was made: its text was run; or what is tried first was run, or was refused, which changed nothing, and then the text was run
abbrev pub IsMade : {S : Type 0} → Ghosts S → Option (List ℕ) → List ℕ → SqlRow → Held S → Held S → Type 0
IsMade g None text given old new = Ran g text given old new
IsMade {S} g (Some tried) text given old new = Ran g tried given old new ⊎ ((same : Held S) × IsUnchanged (state g old) (state g same) × Ran g text given same new)

-- the statements were made in turn inside a transaction
abbrev pub Makes : {S : Type 0} → Ghosts S → List Statement → Held S → Held S → Type 0
Makes g [] old new = new ≡ old
Makes {S} g (first ∷ rest) old new = (mid : Held S) × IsMade g first.tried first.text first.given old mid × Makes g rest mid new

-- the tables were made where they were not there, then all changes were, in one transaction, and it is committed
pub record CommitsAll {S : Type 0} (g : Ghosts S) (changes : List Change) (old new : Held S) : Type 0 where
  pub last : Held S
  pub made : Makes g (make_tables ++ all_statements changes) (record old { in_transaction = true }) last
  pub committed : (state g new).committed ≡ (state g last).now
  pub now : (state g new).now ≡ (state g last).now

-- the texts of the statements that set the rows of a report, drop them, and read all rows
abbrev pub six_texts : List (List ℕ)
six_texts = sql.put_record ∷ sql.put_sealed ∷ sql.drop_trail ∷ sql.drop_sealed ∷ sql.read_record ∷ sql.read_sealed ∷ []

-- texts are understood over the tables that a database has
abbrev pub Understands : {S : Type 0} → Ghosts S → Held S → List (List ℕ) → Type 0
Understands g held texts = All (λ text. IsOk (understood (state g held).now.schema text)) texts

-- the database is as it was last committed
pub record IsAsCommitted {S : Type 0} (g : Ghosts S) (old new : Held S) : Type 0 where
  pub now : (state g new).now ≡ (state g old).committed
  pub committed : (state g new).committed ≡ (state g old).committed

-- over a connection that is open only once its file is: it was open and is, and all changes are committed, while the disk is clean
abbrev pub CommitsOpen : {S : Type 0} → Ghosts S → List Change → Option (Held S) → Option (Held S) → Type 0
CommitsOpen g changes (Some old) (Some new) = HasCleanDisk (state g new) → CommitsAll g changes old new
CommitsOpen g changes _ _ = ⊥

-- it is open only if it was, and is then as it was last committed, while the disk is clean and the database is open
abbrev pub KeepsOpen : {S : Type 0} → Ghosts S → Option (Held S) → Option (Held S) → Type 0
KeepsOpen g (Some old) (Some new) = HasCleanDisk (state g new) → IsTrue (state g new).is_open → IsAsCommitted g old new
KeepsOpen g None None = ⊤
KeepsOpen g _ _ = ⊥

-- a call in a transaction made the statements, where it is Ok, while the disk is clean
abbrev pub OkMakes : {S T E : Type 0} → Ghosts S → List Statement → Held S → Held S → Result T E → Type 0
OkMakes g statements old new result = HasCleanDisk (state g new) → IsTrue old.in_transaction → OnOk result (Makes g statements old new)

-- it committed nothing, where it failed
abbrev pub ErrKeeps : {S T E : Type 0} → Ghosts S → Held S → Held S → Result T E → Type 0
ErrKeeps g old new result = HasCleanDisk (state g new) → IsTrue old.in_transaction → OnErr result (KeepsCommit (state g old) (state g new))

-- whatever it answered, no fault is forgotten, and a crash leaves what it left before
abbrev pub LeavesAsBefore : {S : Type 0} → Ghosts S → Held S → Held S → Type 0
LeavesAsBefore g old new = Survives (state g old) (state g new) (λ _. ⊥)

-- a crash leaves what it left before, or the rows after the changes
abbrev pub LeavesChanged : {S : Type 0} → Ghosts S → List Change → List Row → Held S → Held S → Type 0
LeavesChanged g changes rows old new = (db : Trees) → (state g new).may_leave db → (state g old).may_leave db ⊎ LeavesRows db (all_changed rows changes)
