use Rattle.std.proofs.Common.{◌≡◌, ◌==◌, ◌++◌, drop, filter, not}
use Rattle.std.specs.List.{list_any}
use Rattle.wb_model.specs.declared.registry.TenantItem.{TenantItem}
use Rattle.wb_tenants.proofs.joined.others.Given as goal

abbrev pub invariant-loop-item : goal.invariant-loop-item
invariant-loop-item g l = l.more ++ filter (λ x. not (list_any (λ (y : TenantItem). y.tenant == g.T.Added.owner x) l.tenants)) (drop l.item-index l.items) ≡ filter (λ x. not (list_any (λ (y : TenantItem). y.tenant == g.T.Added.owner x) l.tenants)) l.items
