use Rattle.std.proofs.Common.{◌≡◌, take, map}
use Rattle.wb_model.specs.declared.registry.TenantItem.{TenantItem}
use Rattle.wb_recovery.proofs.opening.ids_of.Given as goal

abbrev pub invariant-loop-item : goal.invariant-loop-item
invariant-loop-item l = l.ids.items ≡ map (λ (x : TenantItem). x.tenant) (take l.item-index l.tenants)
