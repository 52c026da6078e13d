-- How a script begins: with a setup that opens a host, or why no host is opened.
use Rattle.std.specs.Prelude.{ℕ, ◌≡◌, ◌⊎◌, List, None, IfSome}
use Rattle.std.specs.Io.KnownBytes.{Keeps}
use Rattle.wb_base.specs.declared.rows.Row.{Row}
use Rattle.wb_base.specs.Outside.{Rose}
use Rattle.wb_cli.specs.declared.status.Status.{Status}
use Rattle.wb_cli.specs.declared.status.Status.TheVariants.{Usage, ReadFault, NoMemory, BadFrame, Setup, OpenFault, KeptRows, TooLong}
use Rattle.wb_server.specs.Opens.{Opens, Refuses}
use Rattle.wb_model.specs.Past.{Past}
use Rattle.wb_model.specs.Pasts.{AllOpened}
use Rattle.wb_model.specs.Tenants.{Hosts}
use Rattle.wb_rows.specs.Loaded.{KeepsRows}
use Rattle.wb_wire.specs.FrameReading.{Progress}
use Rattle.wb_wire.specs.SetupReading.{TookSetup, TookSetupPart, TookSetupAll, after_setup}
use Rattle.wb_wire.specs.SetupText.{NoSetup}
use Rattle.wb_base.specs.Ends.{KeeperEnd, SourceEnd}

-- a reader that took nothing
abbrev pub unread : Progress
unread = record { given = 0; taken = 0; stopped = None }

-- with the keeper's and the source's ends before and now
module _ (keeper keeper' : KeeperEnd) (source source' : SourceEnd) where
  -- the input begins with a setup's frame, of which a host was opened
  pub record Begins (reader : Progress) (hosts : Hosts) : Type 0 where
    pub loaded : List Row
    pub setup : List ℕ
    pub start : Past AllOpened
    pub took : TookSetup source.left source'.left setup
    pub goes_on : reader ≡ after_setup unread setup
    pub opens : Opens keeper keeper' loaded setup start hosts

  -- the input begins with a setup's frame, which opens no host
  abbrev pub IsRefusedSetup : Status → Type 0
  IsRefusedSetup status = (setup : List ℕ) × TookSetup source.left source'.left setup × Refuses keeper keeper' setup status

  -- why no host was opened
  abbrev pub LacksHost : Status → Type 0
  LacksHost Usage = Keeps source.left source'.left × (keeper'.count ≡ keeper.count)
  LacksHost ReadFault = Rose source.count source'.count × TookSetupPart 0 source.left source'.left × (keeper'.count ≡ keeper.count)
  LacksHost NoMemory = (TookSetupPart 0 source.left source'.left × (keeper'.count ≡ keeper.count)) ⊎ IsRefusedSetup NoMemory
  LacksHost (BadFrame n) = (n ≡ 0) × IfSome source.left NoSetup × TookSetupPart 0 source.left source'.left × (keeper'.count ≡ keeper.count)
  LacksHost (Setup fault) = IsRefusedSetup (Setup fault)
  LacksHost OpenFault = IsRefusedSetup OpenFault
  LacksHost (KeptRows fault) = IsRefusedSetup (KeptRows fault)
  LacksHost TooLong = TookSetupAll 0 source.left source'.left × (keeper'.count ≡ keeper.count)
  LacksHost status = ⊥

  -- no host was opened, and what is kept is as it was
  pub record OpensNone (status : Status) : Type 0 where
    pub cause : LacksHost status
    pub rows_as_they_were : KeepsRows keeper keeper'
