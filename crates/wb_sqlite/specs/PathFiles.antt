-- What is seen of a keeper over the file at a path, and what its calls do to the file.
use Rattle.std.specs.Prelude.{◌≡◌, ℕ, List, None, refl}
use Rattle.std.specs.Coded.{Coded, code_by, coded×, coded_ℕ}
use Rattle.sqlite.specs.Files.{over_files}
use Rattle.wb_base.specs.declared.rows.Change.{Change}
use Rattle.wb_base.specs.declared.rows.Row.{Row}
use Rattle.wb_sqlite.specs.contracts.path_file.PathFile as file
use Rattle.wb_sqlite.specs.declared.path_file.PathFile.{PathFile}
use Rattle.wb_sqlite.specs.Readings.{LoadsOpen}
use Rattle.wb_sqlite.specs.Statements.{CommitsOpen, KeepsOpen}
use Rattle.wb_sqlite.specs.NewFiles.{IsHonestIfOpen, HoldsIfOpen}

-- the file, with its connection once it is open, and how many calls failed
pub record Filed : Type 0 where
  pub file : PathFile
  pub faults : ℕ

abbrev pub filed_code : Coded Filed
filed_code = code_by (PathFile × ℕ) (coded× file.the_row.coded coded_ℕ) (λ k. (k.file, k.faults)) (λ p. record { file = p.0; faults = p.1 }) (λ _. refl)

-- it was not opened
abbrev pub IsUnopened : PathFile → Type 0
IsUnopened file = file.conn ≡ None

-- it is open, and what it held was read whole, while the disk is clean
abbrev pub Loads : PathFile → List Row → Type 0
Loads file rows = LoadsOpen over_files file.conn rows

-- it was open and is, and all changes are committed, while the disk is clean
abbrev pub Commits : List Change → PathFile → PathFile → Type 0
Commits changes old new = CommitsOpen over_files changes old.conn new.conn

-- it is open only if it was, and is then as it was last committed, while the disk is clean and the database is open
abbrev pub Keeps : PathFile → PathFile → Type 0
Keeps old new = KeepsOpen over_files old.conn new.conn

-- it was not opened, or its database has answered truly so far, as that of a new file, and still serves
abbrev pub IsHonestFile : PathFile → Type 0
IsHonestFile file = IsHonestIfOpen over_files file.conn

-- the rows that it holds: none before it is opened, since it is taken to be new
abbrev pub FileHolds : PathFile → List Row → Type 0
FileHolds file rows = HoldsIfOpen over_files file.conn rows
