-- What a turn leaves that changes nothing: the host at its time and its turn number, without what fell due.
use Rattle.std.specs.Prelude.{ℕ, ◌+◌, max, map}
use Rattle.wb_model.specs.Requests.{Frame}
use Rattle.wb_model.specs.Host.{Host, purged, time_at, purge_at}
use Rattle.wb_model.specs.Tenants.{Tenancy, Hosts}

-- one tenant's host: a turn later, at the frame's moment where that is later, and what fell due by then is gone
abbrev pub host_unchanged : Host → Frame → Host
host_unchanged h f = record { turns = h.turns + 1; now = time_at h f; tables = purge_at h f }

abbrev pub one_unchanged : ℕ → Tenancy → Tenancy
one_unchanged time x = record { id = x.id; tables = purged time x.tables }

-- and so the hosts of all tenants
abbrev pub hosts_unchanged : Hosts → Frame → Hosts
hosts_unchanged h f = record { turns = h.turns + 1; now = max h.now f.moment; list = map (one_unchanged (max h.now f.moment)) h.list }
