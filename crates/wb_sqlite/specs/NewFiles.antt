-- What is told of a file that was new as it was opened.
use Rattle.std.specs.Prelude.{◌≡◌, List, [], Option, Some, None, ⊤}
use Rattle.sqlite_disk.specs.declared.Disk.{Ghosts as Disked}
use Rattle.sqlite_disk.specs.declared.Files.{Files}
use Rattle.sqlite_wal.specs.Files.{outcomes}
use Rattle.sqlite_wal.specs.Recovery.{Image}
use Rattle.sqlite_trees.specs.declared.store.Store.{Ghosts}
use Rattle.sqlite.specs.Held.{Held, state}
use Rattle.wb_base.specs.declared.rows.Row.{Row}
use Rattle.wb_stored.specs.KeptFiles.{FilesHoldAlone}
use Rattle.wb_stored.specs.Told.{IsHonest, HoldsRows}

-- it is not open yet, or its store has answered truly so far and still serves
abbrev pub IsHonestIfOpen : {S : Type 0} → Ghosts S → Option (Held S) → Type 0
IsHonestIfOpen g (Some now) = IsHonest (state g now)
IsHonestIfOpen g None = ⊤

-- it is not open yet and there are no rows, or its database holds them
abbrev pub HoldsIfOpen : {S : Type 0} → Ghosts S → Option (Held S) → List Row → Type 0
HoldsIfOpen g (Some now) rows = HoldsRows (state g now) rows
HoldsIfOpen g None rows = rows ≡ []

-- whatever the disk holds of the two files after a close, it holds these rows
abbrev pub OutcomesHold : {D : Type 0} → Disked D → Files D → List Row → Type 0
OutcomesHold g files rows = (image : Image) → outcomes g files.log files.db image → FilesHoldAlone image rows
