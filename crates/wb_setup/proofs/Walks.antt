-- One step of a walk over the items of a list.
use Rattle.std.proofs.Common.{List, ◌++◌, Option, option_map}
use Rattle.toml.specs.Data.{Data, Items}
use Rattle.wb_setup.specs.TomlValues.{all_of}

-- what was found, and then what the rest gives
abbrev pub then_rest : {X : Type 0} → (Data → Option X) → List X → Items → Option (List X)
then_rest reading found rest = option_map (λ xs. found ++ xs) (all_of reading rest)
