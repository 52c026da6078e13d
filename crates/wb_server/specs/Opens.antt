-- How a host is opened by kept rows and a setup's bytes, or why none is.
use Rattle.std.specs.Prelude.{ℕ, ◌≡◌, ◌≢◌, ◌≤◌, List, Ok, Err}
use Rattle.wb_base.specs.declared.rows.Row.{Row}
use Rattle.wb_base.specs.Outside.{Rose}
use Rattle.wb_cli.specs.declared.status.Status.{Status}
use Rattle.wb_cli.specs.declared.status.Status.TheVariants.{NoMemory, Setup, OpenFault, KeptRows}
use Rattle.wb_model.specs.declared.registry.Lists.{Lists}
use Rattle.wb_model.specs.Past.{Past}
use Rattle.wb_model.specs.Pasts.{AllOpened}
use Rattle.wb_model.specs.Rows.{rows}
use Rattle.wb_model.specs.Tenants.{Hosts}
use Rattle.wb_rows.specs.Judged.{judged}
use Rattle.wb_rows.specs.Loaded.{AreLoaded}
use Rattle.wb_setup.specs.declared.setup.SetupFault.TheVariants as faults
use Rattle.wb_setup.specs.Setups.{setup as lists_in}
use Rattle.wb_desk.specs.Openings.{IsOpenedBy}
use Rattle.wb_desk.specs.Turns.{StandsFor}
use Rattle.wb_base.specs.Ends.{KeeperEnd}

-- with the keeper's end before and now
module _ (keeper keeper' : KeeperEnd) where
  -- the hosts stand for what the rows and the setup open: the keeper held the rows, and holds those of the start
  pub record Opens (loaded : List Row) (setup : List ℕ) (start : Past AllOpened) (hosts : Hosts) : Type 0 where
    pub opened : IsOpenedBy loaded setup start
    pub stands : StandsFor hosts start
    pub kept : keeper'.honest → (before : List Row) → keeper.holds before → (before ≡ loaded) × keeper'.holds (rows start)
    pub later : keeper.count ≤ keeper'.count

  -- the setup opens no host: it is refused, or the keeper failed, or the rows that it held are refused, or there was no memory
  abbrev pub Refuses : List ℕ → Status → Type 0
  Refuses setup (Setup fault) = (fault ≢ faults.Memory) × (lists_in setup ≡ Err fault) × (keeper'.count ≡ keeper.count)
  Refuses setup OpenFault = Rose keeper.count keeper'.count × ((lists : Lists) × (lists_in setup ≡ Ok lists))
  Refuses setup (KeptRows fault) = ((loaded : List Row) × AreLoaded keeper keeper' loaded × (judged loaded ≡ Err fault)) × ((lists : Lists) × (lists_in setup ≡ Ok lists)) × (keeper.count ≤ keeper'.count)
  Refuses setup NoMemory = keeper.count ≤ keeper'.count
  Refuses setup status = ⊥
