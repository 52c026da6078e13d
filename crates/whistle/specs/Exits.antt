-- What is left of a run when the program ends: its number, and its line on standard error.
use Rattle.std.specs.Prelude.{◌⊎◌, ◌≡◌, ◌≢◌, ℕ, List}
use Rattle.std.specs.Io.KnownBytes.{Appends}
use Rattle.wb_base.specs.Outside.{AppendsFront, Rose}
use Rattle.wb_cli.specs.declared.status.Status.{Status}
use Rattle.wb_cli.specs.Statuses.{status_text, status_number}
use Rattle.wb_base.specs.Ends.{SinkEnd, KeeperEnd, SourceEnd}
use Rattle.wb_cli.specs.declared.status.Status.TheVariants.{ReadFault, WriteFault}
use Rattle.whistle.specs.Asked.{Did}

-- the sink for errors got the status's line and nothing else, or a part of it where a write failed
abbrev pub TellsLine : SinkEnd → SinkEnd → Status → Type 0
TellsLine errors errors' status = Appends errors.held errors'.held (status_text status) ⊎ (Rose errors.count errors'.count × AppendsFront errors.held errors'.held (status_text status))

-- a run with these words did what its status says, the line of which was written, and this is the number of it. The source failed at no call
-- of a run that does not say so, nor did the sink
abbrev pub EndsAs : SourceEnd → SourceEnd → SinkEnd → SinkEnd → KeeperEnd → KeeperEnd → SinkEnd → SinkEnd → List (List ℕ) → ℕ → Type 0
EndsAs source source' sink sink' keeper keeper' errors errors' words number =
    (status : Status) × (number ≡ status_number status) × Did source source' sink sink' keeper keeper' words status
    × (status ≢ ReadFault → source'.count ≡ source.count) × (status ≢ WriteFault → sink'.count ≡ sink.count) × TellsLine errors errors' status
