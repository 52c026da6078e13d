-- What a turn is made of.
use Rattle.std.specs.Prelude.{List, ℕ}
use Rattle.wb_model.specs.declared.command.Asked.{Asked}
use Rattle.wb_model.specs.Readings.{Asks, Reads}

-- some bytes are a request that asks this
abbrev pub IsAsked : Asked → Type 0
IsAsked asked = (bytes : List ℕ) × Reads bytes (Asks asked)
