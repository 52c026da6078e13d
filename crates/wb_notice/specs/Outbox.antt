-- What one call makes of the rows of an outbox.
use Rattle.std.specs.Prelude.{ℕ, ◌&&◌, not, is_some, Bool, List, map, filter, find}
use Rattle.wb_base.specs.declared.rows.Change.TheVariants.{Put}
use Rattle.wb_base.specs.declared.rows.Key.{Key}
use Rattle.wb_base.specs.declared.rows.Row.{Row}
use Rattle.wb_base.specs.KeptRows.{all_changed, key_cmp, key_of}
use Rattle.wb_list.specs.Keyed.{has_key}
use Rattle.wb_model.specs.SetUps.{has_tenant}
use Rattle.wb_model.specs.Tables.{is_there}
use Rattle.wb_notice.specs.declared.notice.Notice.{Notice}
use Rattle.wb_notice.specs.Notices.{notice_row}
use Rattle.wb_notice.specs.Owed.{Unsealed, live, owed}

-- a row of this key stands
abbrev pub stands : List Row → Key → Bool
stands rows key = is_some (find (has_key key_cmp key_of key) rows)

module _ (x : Unsealed) (now : ℕ) where
  -- a report of a tenant is there and live
  abbrev pub lives : ℕ → ℕ → Bool
  lives t number = has_tenant x.lists t && is_there number (live x now t)

  -- a row is of a live report
  abbrev pub is_of_live : Row → Bool
  is_of_live row = lives row.key.tenant row.key.a

  -- the notices that are owed and do not stand
  abbrev pub new_notices : List Row → List Notice
  new_notices rows = filter (λ (n : Notice). not (stands rows (notice_row n).key)) (owed x now)

  -- their rows
  abbrev pub new_rows : List Row → List Row
  new_rows rows = map notice_row (new_notices rows)

  -- the rows of live reports, and the new ones
  abbrev pub box : List Row → List Row
  box rows = all_changed (filter is_of_live rows) (map Put (new_rows rows))
