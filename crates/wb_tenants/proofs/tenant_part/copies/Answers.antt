use Rattle.std.proofs.Common.{rules, ◌==◌}
use Rattle.wb_tenants.proofs.Others.{one_more}
use Rattle.wb_tenants.proofs.tenant_part.copies.Goals as goal

pub loop-item-preserved : goal.loop-item-preserved
loop-item-preserved g c = one_more (λ x. g.T.Added.owner x == c.args.tenant) _ _ c.args.items.now _ c.loop-item.item-index _ (search rules) (search rules) c.in_ok-add_own.ensures c.loop-item.invariant
