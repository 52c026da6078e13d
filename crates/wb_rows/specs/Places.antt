-- What tells things apart within all tenants, and the keys of rows.
use Rattle.std.specs.Prelude.{ℕ}
use Rattle.wb_base.specs.declared.rows.Key.{Key}
use Rattle.wb_custody.specs.declared.sealed.SealedItem.{SealedItem}
use Rattle.wb_row_codec.specs.declared.item.EntryItem.{EntryItem}
use Rattle.wb_row_codec.specs.declared.item.NumberingItem.{NumberingItem}
use Rattle.wb_model.specs.declared.registry.ContextItem.{ContextItem}
use Rattle.wb_model.specs.declared.registry.FormItem.{FormItem}
use Rattle.wb_model.specs.declared.registry.UserItem.{UserItem}
use Rattle.wb_rows.specs.Reports.{Report}

-- ---- keys of rows

abbrev pub key : ℕ → ℕ → ℕ → ℕ → Key
key kind tenant a b = record { kind = kind; tenant = tenant; a = a; b = b }

abbrev pub numbering_key : NumberingItem → Key
numbering_key x = key 2 x.tenant 0 0

abbrev pub user_key : UserItem → Key
user_key x = key 3 x.tenant x.id 0

abbrev pub form_key : FormItem → Key
form_key x = key 4 x.tenant x.id x.version

abbrev pub context_key : ContextItem → Key
context_key x = key 5 x.tenant x.id 0

abbrev pub entry_key : EntryItem → Key
entry_key x = key 6 x.tenant x.number x.place

abbrev pub sealed_key : SealedItem → Key
sealed_key x = key 7 x.tenant x.number 0

-- ---- the tenant, and a number within it

abbrev pub report_place : Report → ℕ × ℕ
report_place r = (r.tenant, r.number)
