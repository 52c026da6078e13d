-- What holds of a desk.
use Rattle.std.specs.Prelude.{◌≤◌}
use Rattle.wb_model.specs.Past.{Past}
use Rattle.wb_model.specs.Pasts.{AllOpened}
use Rattle.wb_model.specs.Tenants.{Hosts}
use Rattle.wb_rows.specs.Left.{IsReadBack}
use Rattle.wb_tables.specs.Kept.{sessions_at}
use Rattle.wb_tables.specs.Standing.{Standing, hosts_of}
use Rattle.wb_recovery.specs.SetUp.{AreSetUpRight}
use Rattle.wb_desk.specs.Turns.{StandsFor}

-- the hosts stand for a past whose rows are read back: verdicts made it, from an opening whose rows are
pub record HasPast (h : Hosts) : Type 0 where
  pub past : Past AllOpened
  pub read_back : IsReadBack past
  pub stands : StandsFor h past

-- a desk has such a past, at a moment that a request may have, and its tenants are set up right; each turn makes one session at most
pub record IsDesk (d : Standing) : Type 0 where
  pub past : HasPast (hosts_of d)
  pub time : d.time ≤ 99_999_999_999
  pub set_up : AreSetUpRight 0 d.tenants
  pub most : d.turns ≤ 1_000_000_000_000_000
  pub sessions : sessions_at d.tenants ≤ d.turns
