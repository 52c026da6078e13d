-- The batch of a turn.
use Rattle.std.specs.Prelude.{◌≡◌, ℕ, false, List, [], ◌++◌, map, All}
use Rattle.wb_base.specs.KeptRows.{all_changed, IsGoodChange}
use Rattle.wb_base.specs.declared.rows.Change.{Change as RowChange}
use Rattle.wb_custody.specs.declared.sealed.SealedItem.{SealedItem}
use Rattle.wb_model.specs.Rows.{rows_of}
use Rattle.wb_tables.specs.Dead.{any_dead}
use Rattle.wb_tables.specs.Kept.{PlainTenancy, tenancy_of, purged_tenancy}

-- the batch of a turn: what its purge drops, and then what its change has to keep
pub record IsBatch (now : ℕ) (xs : List PlainTenancy) (puts batch : List RowChange) : Type 0 where
  pub drops : List RowChange
  pub is : batch ≡ drops ++ puts
  pub rows : (items : List SealedItem) → all_changed (rows_of (map (tenancy_of items) xs)) drops ≡ rows_of (map (purged_tenancy now) (map (tenancy_of items) xs))
  pub none : any_dead now xs ≡ false → drops ≡ []
  pub good : All IsGoodChange batch
