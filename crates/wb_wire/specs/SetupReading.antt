-- What a reader takes of a setup's frame and answers.
use Rattle.std.specs.Prelude.{ℕ, ◌≡◌, ◌+◌, ◌≤◌, List, length, Option}
use Rattle.std.specs.Io.KnownBytes.{Consumes}
use Rattle.wb_wire.specs.declared.frames.FrameNo.{FrameNo}
use Rattle.wb_wire.specs.FrameReading.{Progress}
use Rattle.wb_wire.specs.SetupText.{setup_line, setup_text, IsSetup, NoSetup}
use Rattle.wb_wire.specs.TextReading.{Stops, TookAll, TookSome}

-- after a setup was given
abbrev pub after_setup : Progress → List ℕ → Progress
after_setup p bytes = record p { taken = p.taken + length (setup_text bytes) }

-- the setup's frame was taken
abbrev pub TookSetup : Option (List ℕ) → Option (List ℕ) → List ℕ → Type 0
TookSetup old new bytes = IsSetup bytes × Consumes old new (setup_text bytes)

-- after so many bytes, bytes within the limit were taken that no whole setup's frame begins
abbrev pub TookSetupPart : ℕ → Option (List ℕ) → Option (List ℕ) → Type 0
TookSetupPart = TookSome NoSetup

-- all bytes up to the limit were taken, which no whole setup's frame begins, and one more was there
abbrev pub TookSetupAll : ℕ → Option (List ℕ) → Option (List ℕ) → Type 0
TookSetupAll = TookAll NoSetup

-- why a reader gives no setup: by how far it has come, what was left and is left, and the source's count before and now
abbrev pub LacksSetup : Progress → Option (List ℕ) → Option (List ℕ) → ℕ → ℕ → FrameNo → Type 0
LacksSetup p = Stops NoSetup NoSetup p.taken 0

-- this is a setup's line, after which so many bytes follow
abbrev pub IsSetupLine : ℕ → List ℕ → Type 0
IsSetupLine size line = (size ≤ 1_048_576) × (line ≡ setup_line size)
