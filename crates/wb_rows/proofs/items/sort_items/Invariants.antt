use Rattle.std.proofs.Common.{◌≡◌}
use Rattle.wb_rows.specs.KeptItems.{kept_of, kept_with}
use Rattle.wb_rows.proofs.items.sort_items.Given as goal

abbrev pub invariant-loop-item : goal.invariant-loop-item
invariant-loop-item l = kept_with l.kept (kept_of l.item-iterator.rest.items) ≡ kept_of l.fn.items.items
