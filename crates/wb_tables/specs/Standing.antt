-- What a desk that keeps these tables stands for.
use Rattle.std.specs.Prelude.{ℕ, List, map}
use Rattle.wb_custody.specs.declared.sealed.SealedItem.{SealedItem}
use Rattle.wb_model.specs.Tenants.{Hosts}
use Rattle.wb_tables.specs.declared.counts.Counts.{Counts}
use Rattle.wb_tables.specs.Kept.{PlainTenancy, tenancy_of, counts_at}

-- the desk: its turns, its time, its tenants, and the identity answers of all of them
pub record Standing : Type 0 where
  pub turns : ℕ
  pub time : ℕ
  pub tenants : List PlainTenancy
  pub sealed : List SealedItem

-- the hosts that a desk stands for
abbrev pub hosts_of : Standing → Hosts
hosts_of d = record { turns = d.turns; now = d.time; list = map (tenancy_of d.sealed) d.tenants }

-- the counts of a desk
abbrev pub counts_of : Standing → Counts
counts_of d = counts_at d.turns d.tenants
