-- A setup that opens no host.
use Rattle.std.proofs.Common.{ℕ, inr, List, Result, Ok, Err}
use Rattle.std.specs.Prelude.{IfErr}
use Rattle.wb_wire.specs.SetupReading.{TookSetup}
use Rattle.wb_cli.specs.declared.status.Status.{Status}
use Rattle.wb_cli.specs.declared.status.Status.TheVariants.{Done, Usage, ReadFault, WriteFault, NoMemory, BadFrame, Setup, OpenFault, KeptRows, TooLong, ListenFault, OutboxRows, NotThere, OutboxFault}
use Rattle.wb_server.specs.Opens.{Refuses}
use Rattle.wb_rows.specs.Loaded.{KeepsRows}
use Rattle.whistle.specs.Starts.{LacksHost, OpensNone}
use Rattle.wb_base.specs.Ends.{KeeperEnd, SourceEnd}

-- what follows where it is an error
pub if_err : {T E : Type 0} {A B : E → Type 0} (r : Result T E) → ((e : E) → A e → B e) → IfErr r A → IfErr r B
if_err (Ok x) f h = tt
if_err (Err e) f h = f e h

module _ (keeper keeper' : KeeperEnd) (source source' : SourceEnd) where
  lacks : (status : Status) (setup : List ℕ) → TookSetup source.left source'.left setup → Refuses keeper keeper' setup status → LacksHost keeper keeper' source source' status
  lacks NoMemory setup took refuses = inr (setup, took, refuses)
  lacks (Setup fault) setup took refuses = (setup, took, refuses)
  lacks OpenFault setup took refuses = (setup, took, refuses)
  lacks (KeptRows fault) setup took refuses = (setup, took, refuses)
  lacks Done setup took refuses = absurd refuses
  lacks Usage setup took refuses = absurd refuses
  lacks ReadFault setup took refuses = absurd refuses
  lacks WriteFault setup took refuses = absurd refuses
  lacks (BadFrame n) setup took refuses = absurd refuses
  lacks TooLong setup took refuses = absurd refuses
  lacks ListenFault setup took refuses = absurd refuses
  lacks (OutboxRows key) setup took refuses = absurd refuses
  lacks NotThere setup took refuses = absurd refuses
  lacks OutboxFault setup took refuses = absurd refuses

  pub none_opened : (status : Status) (setup : List ℕ) → TookSetup source.left source'.left setup → Refuses keeper keeper' setup status × KeepsRows keeper keeper' → OpensNone keeper keeper' source source' status
  none_opened status setup took both = record { cause = lacks status setup took both.0; rows_as_they_were = both.1 }
