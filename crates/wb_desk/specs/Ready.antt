-- What the change of a turn makes.
use Rattle.std.specs.Prelude.{◌≡◌, ◌≢◌, ℕ, List, set, slice_index_or}
use Rattle.wb_custody.specs.declared.sealed.SealedItem.{SealedItem}
use Rattle.wb_custody.specs.SealedAnswers.{answers_of}
use Rattle.wb_model.specs.Host.{changed}
use Rattle.wb_commands.specs.declared.mutation.Mutation.{Mutation}
use Rattle.wb_commands.specs.Made.{planned_change}
use Rattle.wb_commands.specs.Plans.{given_of}
use Rattle.wb_tables.specs.Kept.{place_of, tables_of}
use Rattle.wb_tables.specs.declared.tenancy.Tenancy.{Tenancy as KeptTenancy}

-- the change of the tenant at a place is made
pub record IsMadeAt (place time : ℕ) (change : Mutation) (items new : List SealedItem) (ks ls : List KeptTenancy) : Type 0 where
  pub tenancy : KeptTenancy
  pub set_at : ls ≡ set ks place tenancy
  pub id : (d : KeptTenancy) → tenancy.configuration.tenant ≡ (slice_index_or ks place d).configuration.tenant
  pub tables : (d : KeptTenancy) → tables_of new (place_of tenancy) ≡ changed time (planned_change (slice_index_or ks place d) change) (given_of change) (tables_of items (place_of (slice_index_or ks place d)))
  pub others : (d : KeptTenancy) (t n : ℕ) → t ≢ (slice_index_or ks place d).configuration.tenant → answers_of new t n ≡ answers_of items t n
