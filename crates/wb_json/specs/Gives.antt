-- What a reader of a value gives.
use Rattle.std.specs.Prelude.{◌≡◌, Option, Some, None, Result, Ok, Err}
use Rattle.wb_json.specs.declared.read_error.ReadError.{ReadError}
use Rattle.wb_json.specs.declared.read_error.ReadError.TheVariants.{Other, Memory}

-- what is wanted; or nothing is, and it says so; or there was no memory
abbrev pub Gives : {X : Type 0} → Option X → Result X ReadError → Type 0
Gives wanted (Ok x) = wanted ≡ Some x
Gives wanted (Err Other) = wanted ≡ None
Gives wanted (Err Memory) = Unit {0}
