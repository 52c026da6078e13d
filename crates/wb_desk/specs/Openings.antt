-- What a host begins with that is opened over what is kept and a setup.
use Rattle.std.specs.Prelude.{◌≡◌, ℕ, List, Ok, filter}
use Rattle.wb_base.specs.declared.rows.Row.{Row}
use Rattle.wb_model.specs.declared.registry.Lists.{Lists}
use Rattle.wb_model.specs.Past.{Past, Opening}
use Rattle.wb_model.specs.Pasts.{AllOpened, has_tenant as stood}
use Rattle.wb_model.specs.Reopened.{left_hosts, left_time}
use Rattle.wb_model.specs.SetUps.{tenant_ids}
use Rattle.wb_model.specs.Tenants.{Hosts, Tenancy}
use Rattle.wb_rows.specs.declared.faults.RowFault.{RowFault}
use Rattle.wb_rows.specs.declared.faults.RowFault.TheVariants.{BadRow, BadSet, Memory}
use Rattle.wb_rows.specs.Held.{Held}
use Rattle.wb_rows.specs.Judged.{judged}
use Rattle.wb_rows.specs.Openings.{tables_of, time_of, with_setup}
use Rattle.wb_setup.specs.Joined.{joined}
use Rattle.wb_setup.specs.Setups.{setup as lists_in}
use Rattle.wb_desk.specs.declared.batch.Lost.{Lost}
use Rattle.wb_desk.specs.declared.batch.Lost.TheVariants as lost
use Rattle.wb_desk.specs.declared.open.OpenFault.{OpenFault}
use Rattle.wb_desk.specs.declared.open.OpenFault.TheVariants as faults
use Rattle.wb_desk.specs.Turns.{StandsFor}

-- ---- the whole

-- an opening over what is held and a setup: at the greatest moment that is held, with the tenants that are there and those that the
-- setup adds, each with what is held of it
pub record IsOpeningOver (setup : Lists) (h : Held) (o : AllOpened) : Type 0 where
  pub at : o.at ≡ time_of h
  pub tenants : o.tenants ≡ tenant_ids (joined setup h.lists)
  pub tables : (t : ℕ) → o.tables t ≡ tables_of (with_setup setup h) t

-- a host before its first turn, over rows that are read without a fault and a setup
pub record IsOpenedOver (rows : List Row) (setup : Lists) (hosts : Hosts) : Type 0 where
  pub held : Held
  pub read : judged rows ≡ Ok held
  pub opening : AllOpened
  pub over : IsOpeningOver setup held opening
  pub stands : StandsFor hosts (Opening opening)

-- the past that loaded rows and a setup's bytes open: both are read, and the host is before its first turn
pub record IsOpenedBy (loaded : List Row) (setup : List ℕ) (start : Past AllOpened) : Type 0 where
  pub lists : Lists
  pub reads : lists_in setup ≡ Ok lists
  pub held : Held
  pub kept : judged loaded ≡ Ok held
  pub opening : AllOpened
  pub over : IsOpeningOver lists held opening
  pub opens : start ≡ Opening opening

-- a host before its first turn where one was left: at the greatest moment that is kept. Of its tenants those that stood are as they were left
pub record IsReopened (before : Past AllOpened) (hosts : Hosts) : Type 0 where
  pub turns : hosts.turns ≡ 0
  pub now : hosts.now ≡ left_time before
  pub list : filter (λ (x : Tenancy). stood before x.id) hosts.list ≡ (left_hosts before).list

-- ---- faults

-- why a host is not opened where its first rows are not kept
abbrev pub fault_of_lost : Lost → OpenFault
fault_of_lost lost.Keeper = faults.Keeper
fault_of_lost lost.Memory = faults.Memory

-- why a host is not opened where rows are not read
abbrev pub fault_of_rows : RowFault → OpenFault
fault_of_rows (BadRow key) = faults.Rows (BadRow key)
fault_of_rows (BadSet rule key) = faults.Rows (BadSet rule key)
fault_of_rows Memory = faults.Memory
