-- What tables hold, item by item, in the order of their rows.
use Rattle.std.specs.Prelude.{ℕ, ◌+◌, List, [], ◌∷◌, ◌++◌, map, Option, Some, None}
use Rattle.wb_base.specs.AnswerList.{Answered}
use Rattle.wb_custody.specs.declared.sealed.SealedItem.{SealedItem}
use Rattle.wb_row_codec.specs.declared.item.EntryItem.{EntryItem}
use Rattle.wb_row_codec.specs.declared.item.Item.{Item}
use Rattle.wb_row_codec.specs.declared.item.Item.TheVariants.{Settings, Numbering, User, Form, Context, Entry, Sealed}
use Rattle.wb_model.specs.declared.entry.Entry.{Entry as EntryData}
use Rattle.wb_rows.specs.Reports.{Report}
use Rattle.wb_rows.specs.Held.{Held}

-- the entries of a trail, from a place on
abbrev pub trail_items : ℕ → ℕ → ℕ → List EntryData → List EntryItem
trail_items t n place [] = []
trail_items t n place (e ∷ es) = record { tenant = t; number = n; place = place; entry = e } ∷ trail_items t n (place + 1) es

abbrev pub report_items : Report → List EntryItem
report_items r = trail_items r.tenant r.number 1 r.trail

abbrev pub entry_items : List Report → List EntryItem
entry_items [] = []
entry_items (r ∷ rs) = report_items r ++ entry_items rs

-- the identity answers of a report, where there are any
abbrev pub sealed_item : ℕ → ℕ → Option Answered → List SealedItem
sealed_item t n None = []
sealed_item t n (Some answers) = record { tenant = t; number = n; answers = answers } ∷ []

abbrev pub sealed_items : (ℕ → ℕ → Option Answered) → List Report → List SealedItem
sealed_items sealed [] = []
sealed_items sealed (r ∷ rs) = sealed_item r.tenant r.number (sealed r.tenant r.number) ++ sealed_items sealed rs

abbrev pub items_of : Held → List Item
items_of h = map Settings h.lists.tenants ++ (map Numbering h.numberings ++ (map User h.lists.users ++ (map Form h.lists.forms ++ (map Context h.lists.contexts ++ (map Entry (entry_items h.reports) ++ map Sealed (sealed_items h.sealed h.reports))))))
