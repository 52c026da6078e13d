-- The rows of tables in a format, in the order of their keys: by kind, and in a kind in the order of the tables.
use Rattle.std.specs.Prelude.{ℕ, List, [], ◌∷◌, ◌++◌, map, Option}
use Rattle.wb_base.specs.AnswerList.{Answered}
use Rattle.wb_base.specs.FormJson.{form_in}
use Rattle.wb_base.specs.declared.form.Format.{Format}
use Rattle.wb_base.specs.declared.form.Format.TheVariants.{Plain, Weighed}
use Rattle.wb_base.specs.declared.rows.Row.{Row}
use Rattle.wb_row_codec.specs.declared.item.NumberingItem.{NumberingItem}
use Rattle.wb_model.specs.declared.registry.ContextItem.{ContextItem}
use Rattle.wb_model.specs.declared.registry.FormItem.{FormItem}
use Rattle.wb_model.specs.declared.registry.Lists.{Lists}
use Rattle.wb_model.specs.declared.registry.TenantItem.{TenantItem}
use Rattle.wb_model.specs.declared.registry.UserItem.{UserItem}
use Rattle.wb_model.specs.Rows.{row, format_row, settings_data, numbering_data, user_data, context_data, entries_from, sealed_row}
use Rattle.wb_rows.specs.Reports.{Report}
use Rattle.wb_rows.specs.Held.{Held}

abbrev pub settings_row : TenantItem → Row
settings_row x = row 1 x.tenant 0 0 (settings_data x)

abbrev pub numbering_row : NumberingItem → Row
numbering_row x = row 2 x.tenant 0 0 (numbering_data x.numbering)

abbrev pub user_row : UserItem → Row
user_row x = row 3 x.tenant x.id 0 (user_data x)

abbrev pub form_row : Format → FormItem → Row
form_row format x = row 4 x.tenant x.id x.version (form_in format x.form)

abbrev pub context_row : ContextItem → Row
context_row x = row 5 x.tenant x.id 0 (context_data x)

-- the rows of what tenants are set up with, and of what they have drawn
abbrev pub list_rows : Format → Lists → List NumberingItem → List Row
list_rows format lists numberings = map settings_row lists.tenants ++ (map numbering_row numberings ++ (map user_row lists.users ++ (map (form_row format) lists.forms ++ map context_row lists.contexts)))

abbrev pub trail_rows : List Report → List Row
trail_rows [] = []
trail_rows (r ∷ rs) = entries_from r.tenant r.number 1 r.trail ++ trail_rows rs

abbrev pub sealed_rows : (ℕ → ℕ → Option Answered) → List Report → List Row
sealed_rows sealed [] = []
sealed_rows sealed (r ∷ rs) = sealed_row r.tenant r.number (sealed r.tenant r.number) ++ sealed_rows sealed rs

-- all but the row of the format
abbrev pub own_rows : Format → Held → List Row
own_rows format h = list_rows format h.lists h.numberings ++ (trail_rows h.reports ++ sealed_rows h.sealed h.reports)

-- rows of format 1 (plain) have no row of the format
abbrev pub rows_in : Format → Held → List Row
rows_in Plain h = own_rows Plain h
rows_in Weighed h = format_row ∷ own_rows Weighed h

abbrev pub rows_of : Held → List Row
rows_of h = rows_in Weighed h
