use Rattle.std.proofs.Common.{rules}
use Rattle.std.specs.Ordering.{nat_cmp, is_le}
use Rattle.std.proofs.lemmas.List.Sorted.{IsPartitionPoint-from_clause}
use Rattle.wb_tenants.proofs.TenantRuns.{ends}
use Rattle.wb_tenants.proofs.owned.end_of.Goals as goal

pub returns-clause-end : goal.returns-clause-end
returns-clause-end g c =
    let parted = ends g.T.Owned.tenant_of g.T.Owned.place_of c.args.tenant c.args.items.now c.requires in
    IsPartitionPoint-from_clause (λ x. is_le (nat_cmp (g.T.Owned.tenant_of x) c.args.tenant)) c.args.items.now c.partition_point.result c.partition_point.ensures.partitioned parted (λ a r f' called. search rules)
