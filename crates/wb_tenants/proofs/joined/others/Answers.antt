use Rattle.std.proofs.Common.{rules, ◌==◌, not}
use Rattle.std.specs.List.{list_any}
use Rattle.wb_model.specs.declared.registry.TenantItem.{TenantItem}
use Rattle.wb_tenants.proofs.Others.{one_more}
use Rattle.wb_tenants.proofs.joined.others.Goals as goal

pub loop-item-preserved : goal.loop-item-preserved
loop-item-preserved g c = one_more (λ x. not (list_any (λ (y : TenantItem). y.tenant == g.T.Added.owner x) c.args.tenants.now)) _ _ c.args.items.now _ c.loop-item.item-index _ (search rules) (search rules) c.in_ok-add_other.ensures c.loop-item.invariant
