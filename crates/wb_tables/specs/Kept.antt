-- What the kept tables stand for.
use Rattle.std.specs.Prelude.{ℕ, ◌==◌, ◌&&◌, Bool, List, map, filter, length}
use Rattle.std.specs.List.{sum_by}
use Rattle.wb_base.specs.declared.words.Digest.{Digest}
use Rattle.wb_custody.specs.declared.sealed.SealedItem.{SealedItem}
use Rattle.wb_custody.specs.SealedAnswers.{answers_of}
use Rattle.wb_base.specs.Secrets.{same_digest}
use Rattle.wb_model.specs.Tables.{Plain, Session, lasts}
use Rattle.wb_model.specs.Host.{Sealed, Tables, live_cases, purged}
use Rattle.wb_model.specs.Tenants.{Tenancy}
pub use Rattle.wb_tables.specs.Lives.{case_of, lives_on}
pub use Rattle.wb_tables.specs.Logins.{session_of}
use Rattle.wb_tables.specs.declared.counts.Counts.{Counts}
use Rattle.wb_tables.specs.declared.tenancy.Tenancy.{Tenancy as KeptTenancy}

abbrev pub plain_of : KeptTenancy → Plain
plain_of x = record { registry = x.configuration.registry; numbering = x.numbering; cases = map case_of x.cases.items; sessions = map session_of x.sessions.items }

-- a tenant's tables but for identity answers, under its id
pub record PlainTenancy : Type 0 where
  pub id : ℕ
  pub plain : Plain

abbrev pub place_of : KeptTenancy → PlainTenancy
place_of x = record { id = x.configuration.tenant; plain = plain_of x }

-- the identity answers of a tenant's reports
abbrev pub sealed_of : List SealedItem → ℕ → Sealed
sealed_of items t = λ n. answers_of items t n

abbrev pub tables_of : List SealedItem → PlainTenancy → Tables
tables_of items x = record { plain = x.plain; sealed = sealed_of items x.id }

abbrev pub tenancy_of : List SealedItem → PlainTenancy → Tenancy
tenancy_of items x = record { id = x.id; tables = tables_of items x }

-- ---- what is there at a time

-- a tenant's tables but for identity answers, once they are purged
abbrev pub live_plain : ℕ → Plain → Plain
live_plain now p = record p { cases = live_cases p now; sessions = filter (lasts now (live_cases p now)) p.sessions }

abbrev pub live_place : ℕ → PlainTenancy → PlainTenancy
live_place now x = record { id = x.id; plain = live_plain now x.plain }

abbrev pub purged_tenancy : ℕ → Tenancy → Tenancy
purged_tenancy now x = record { id = x.id; tables = purged now x.tables }

-- the session of a turn and a secret's digest
abbrev pub is_session : ℕ → Digest → Session → Bool
is_session turn digest s = (s.turn == turn) && same_digest s.digest digest

-- ---- counts

-- the reports that are held, of all tenants
abbrev pub live_at : List PlainTenancy → ℕ
live_at xs = sum_by (λ x. length x.plain.cases) xs

-- the sum of their last numbers
abbrev pub numbers_at : List PlainTenancy → ℕ
numbers_at xs = sum_by (λ x. x.plain.numbering.last) xs

-- their standing sessions
abbrev pub sessions_at : List PlainTenancy → ℕ
sessions_at xs = sum_by (λ x. length x.plain.sessions) xs

abbrev pub counts_at : ℕ → List PlainTenancy → Counts
counts_at turns xs = record { turns = turns; live = live_at xs; numbers = numbers_at xs; sessions = sessions_at xs }
