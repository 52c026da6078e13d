use Rattle.std.proofs.Common.{◌≡◌, ◌++◌, drop, map}
use Rattle.std.specs.List.{list_any}
use Rattle.std.specs.Prelude.{◌==◌}
use Rattle.wb_setup.specs.Keys.{tenant_key}
use Rattle.wb_recovery.specs.HeldPlaces.{new_puts}
use Rattle.wb_recovery.proofs.opening.put_all_new.Given as goal

abbrev pub invariant-loop-item : goal.invariant-loop-item
invariant-loop-item l = l.batch.items ++ new_puts l.registry.lists (λ t. list_any (λ u. u == t) l.old) (map tenant_key (drop l.item-index l.item-items)) ≡ l.initial.batch.items ++ new_puts l.registry.lists (λ t. list_any (λ u. u == t) l.old) (map tenant_key l.item-items)
