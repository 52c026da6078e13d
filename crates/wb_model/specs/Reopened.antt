-- What a host leaves of its past, and the opening that is made of it again.
use Rattle.std.specs.Prelude.{◌≡◌, true, ℕ, max, if◌then◌else◌, List, [], ◌∷◌, ◌++◌, map}
use Rattle.wb_model.specs.declared.entry.Entry.{Entry}
use Rattle.wb_model.specs.Tables.{Case}
use Rattle.wb_model.specs.Host.{Tables}
use Rattle.wb_model.specs.Legal.{ascends}
use Rattle.wb_model.specs.Opened.{AreOpened}
use Rattle.wb_model.specs.Openings.{no_settings, empty_tables}
use Rattle.wb_model.specs.Tenants.{Tenancy, Hosts}
use Rattle.wb_model.specs.Past.{Past, held}
use Rattle.wb_model.specs.Pasts.{AllOpened, part, tenants, has_tenant, held_tenancy, standing_hosts}

-- ---- the moment

-- the moments of all entries
abbrev pub entry_moments : List Case → List ℕ
entry_moments [] = []
entry_moments (c ∷ cs) = map (λ (e : Entry). e.at) c.trail ++ entry_moments cs

-- the moments that a tenant's tables keep: those of its last draw and of its entries
abbrev pub moments : Tables → List ℕ
moments t = t.plain.numbering.at ∷ entry_moments t.plain.cases

abbrev pub all_moments : List Tenancy → List ℕ
all_moments [] = []
all_moments (x ∷ xs) = moments x.tables ++ all_moments xs

-- the greatest of some moments, or 0
abbrev pub latest : List ℕ → ℕ
latest [] = 0
latest (m ∷ ms) = max m (latest ms)

-- the greatest moment that is kept of a past, which may be earlier than the past's time
abbrev pub left_time : Past AllOpened → ℕ
left_time past = latest (all_moments (map (held_tenancy past) (tenants past)))

-- ---- the tables

-- no session is kept
abbrev pub without_sessions : Tables → Tables
without_sessions t = record t { plain = record t.plain { sessions = [] } }

-- what is kept of a tenant, and no report where it is not there
abbrev pub left_tables : Past AllOpened → ℕ → Tables
left_tables past t = if has_tenant past t then without_sessions (held (part t past)) else empty_tables (record { settings = no_settings t; users = []; forms = []; contexts = [] })

abbrev pub left_tenancy : Tenancy → Tenancy
left_tenancy x = record { id = x.id; tables = without_sessions x.tables }

-- the hosts before the first turn after it: of what is kept, at its greatest moment
abbrev pub left_hosts : Past AllOpened → Hosts
left_hosts past = record { turns = 0; now = left_time past; list = map left_tenancy (standing_hosts past).list }

-- ---- the opening

abbrev pub reopening : (past : Past AllOpened) → ascends (tenants past) ≡ true → ((t : ℕ) → AreOpened (left_time past) (left_tables past t)) → AllOpened
reopening past ids sound = record {
  at = left_time past;
  tenants = tenants past;
  ids = ids;
  tables = left_tables past;
  sound = sound;
}
