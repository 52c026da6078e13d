use Rattle.std.proofs.Common.{◌≡◌, ◌++◌, List, drop, true, Result, Ok, Err}
use Rattle.std.specs.List.{list_all}
use Rattle.wb_row_codec.specs.declared.item.Item.{Item}
use Rattle.wb_row_codec.specs.Items.{is_in_range}
use Rattle.wb_rows.specs.declared.faults.RowFault.{RowFault}
use Rattle.wb_rows.specs.ReadItems.{items_in}
use Rattle.wb_rows.proofs.items.read_items.Given as goal

-- what was read, and what the rest gives
abbrev after : List Item → Result (List Item) RowFault → Result (List Item) RowFault
after items (Ok rest) = Ok (items ++ rest)
after items (Err fault) = Err fault

abbrev pub invariant-loop-row : goal.invariant-loop-row
invariant-loop-row l = record {
  items : items_in l.format l.rows ≡ after l.items.items (items_in l.format (drop l.row-index l.rows));
  fits : list_all is_in_range l.items.items ≡ true;
}
