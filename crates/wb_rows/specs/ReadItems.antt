-- What rows stand for, row by row.
use Rattle.std.specs.Prelude.{List, [], ◌∷◌, Option, Some, None, Result, Ok, Err}
use Rattle.wb_base.specs.declared.form.Format.{Format}
use Rattle.wb_base.specs.declared.rows.Key.{Key}
use Rattle.wb_base.specs.declared.rows.Row.{Row}
use Rattle.wb_row_codec.specs.declared.item.Item.{Item}
use Rattle.wb_row_codec.specs.Items.{item_of}
use Rattle.wb_rows.specs.declared.faults.RowFault.{RowFault}
use Rattle.wb_rows.specs.declared.faults.RowFault.TheVariants.{BadRow}

-- an item before others, where its row is good
abbrev pub with_first : Option Item → Key → Result (List Item) RowFault → Result (List Item) RowFault
with_first None key rest = Err (BadRow key)
with_first (Some item) key (Ok items) = Ok (item ∷ items)
with_first (Some item) key (Err fault) = Err fault

-- what rows of a format stand for, or the first key whose row is not good
abbrev pub items_in : Format → List Row → Result (List Item) RowFault
items_in format [] = Ok []
items_in format (row ∷ rows) = with_first (item_of format row) row.key (items_in format rows)
