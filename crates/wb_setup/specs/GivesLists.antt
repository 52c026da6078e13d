-- What the reader of a setup gives.
use Rattle.std.specs.Prelude.{◌≡◌, ◌≢◌, Result, Ok, Err}
use Rattle.wb_model.specs.declared.registry.Lists.{Lists}
use Rattle.wb_setup.specs.declared.setup.SetupFault.{SetupFault}
use Rattle.wb_setup.specs.declared.setup.SetupFault.TheVariants.{Memory}

-- the lists that are wanted, or their fault, or want of memory
abbrev pub GivesLists : Result Lists SetupFault → Result Lists SetupFault → Type 0
GivesLists wanted (Ok lists) = wanted ≡ Ok lists
GivesLists wanted (Err fault) = fault ≢ Memory → wanted ≡ Err fault
