-- Which rows a database file and its log hold.
use Rattle.std.specs.Prelude.{◌≡◌, ◌⊎◌, List, []}
use Rattle.sqlite_wal.specs.Recovery.{Image}
use Rattle.sqlite_trees.specs.Tree.{Trees}
use Rattle.sqlite.specs.Files.{HoldsDatabase}
use Rattle.wb_base.specs.declared.rows.Row.{Row}
use Rattle.wb_stored.specs.Told.{LeavesRows}

-- the database that the two files hold tells these rows, or the database file is empty and there are none
abbrev pub FilesHold : Image → List Row → Type 0
FilesHold image rows = ((db : Trees) × ∥ HoldsDatabase image db ∥₁ × LeavesRows db rows) ⊎ ((image.db ≡ []) × (rows ≡ []))

-- and so does the database file with no log
abbrev pub FilesHoldAlone : Image → List Row → Type 0
FilesHoldAlone image rows = FilesHold image rows × FilesHold (record image { log = [] }) rows
