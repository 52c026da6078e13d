-- The host of several tenants as one list of past turns: each tenant has its own part of it.
use Rattle.std.specs.Prelude.{◌≡◌, ℕ, ◌==◌, max, Bool, true, if◌then◌else◌, List, map}
use Rattle.std.specs.List.{list_any}
use Rattle.wb_model.specs.declared.body.Told.{Told}
use Rattle.wb_model.specs.declared.event.What.{What}
use Rattle.wb_model.specs.declared.event.What.TheVariants.{Did, Gap, Idle, Lost}
use Rattle.wb_model.specs.Requests.{Frame}
use Rattle.wb_model.specs.Host.{Tables}
use Rattle.wb_model.specs.Tenants.{Tenancy, Hosts, tenant_at, without_tenant}
use Rattle.wb_model.specs.Commands.{tenant_of}
use Rattle.wb_model.specs.Past.{Past, Opening, Turn, turns, held, tables}
use Rattle.wb_model.specs.PastTurns.{reply_at, what_at}
use Rattle.wb_model.specs.Legal.{ascends}
use Rattle.wb_model.specs.Opened.{AreOpened, Opened}

-- the opening of a host: a moment, the tenants, and the tables of each
pub record AllOpened : Type 0 where
  pub at : ℕ
  -- their numbers, which ascend
  pub tenants : List ℕ
  pub ids : ascends tenants ≡ true
  pub tables : ℕ → Tables
  pub sound : (t : ℕ) → AreOpened at (tables t)

-- one tenant's turn is idle to the others, and a lost turn is lost to all
abbrev pub seen : ℕ → What → What
seen t (Did asked by) = if tenant_of asked.command == t then Did asked by else Idle
seen t (Gap u) = if u == t then Gap u else Idle
seen t Idle = Idle
seen t Lost = Lost

-- the past as one tenant has it
abbrev pub part : ℕ → Past AllOpened → Past Opened
part t (Opening o) = Opening (record { at = o.at; tables = o.tables t; sound = o.sound t })
part t (Turn e past) = Turn (record e { what = seen t e.what }) (part t past)

abbrev pub tenants : Past AllOpened → List ℕ
tenants (Opening o) = o.tenants
tenants (Turn e past) = tenants past

abbrev pub has_tenant : Past AllOpened → ℕ → Bool
has_tenant past t = list_any (λ u. u == t) (tenants past)

-- the greatest moment
abbrev pub time : Past AllOpened → ℕ
time (Opening o) = o.at
time (Turn e past) = max (time past) e.moment

-- the tables of all tenants at a moment
abbrev pub tenancy : Past AllOpened → ℕ → ℕ → Tenancy
tenancy past moment t = record { id = t; tables = tables (part t past) moment }

-- what the host holds of a tenant
abbrev pub held_tenancy : Past AllOpened → ℕ → Tenancy
held_tenancy past t = record { id = t; tables = held (part t past) }

-- the hosts that stand for a past
abbrev pub standing_hosts : Past AllOpened → Hosts
standing_hosts past = record { turns = turns past; now = time past; list = map (held_tenancy past) (tenants past) }

-- ---- a turn

-- the reply to a request
abbrev pub reply_in : Past AllOpened → Frame → Told
reply_in past f = if has_tenant past (tenant_at f) then reply_at (part (tenant_at f) past) f else without_tenant (tenant_at f)

-- what its turn was
abbrev pub what_in : Past AllOpened → Frame → What
what_in past f = if has_tenant past (tenant_at f) then what_at (tenant_at f) (part (tenant_at f) past) f else Idle

-- the past with that turn
abbrev pub with_turn : Past AllOpened → Frame → Past AllOpened
with_turn past f = Turn (record { moment = f.moment; words = f.words; what = what_in past f }) past

-- and with a turn that was answered with want of memory or a keeper's fault
abbrev pub with_loss : Past AllOpened → Frame → Past AllOpened
with_loss past f = Turn (record { moment = f.moment; words = f.words; what = Lost }) past
