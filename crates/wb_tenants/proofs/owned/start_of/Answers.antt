use Rattle.std.proofs.Common.{rules}
use Rattle.std.specs.Ordering.{nat_cmp, is_lt}
use Rattle.std.proofs.lemmas.List.Sorted.{IsPartitionPoint-from_clause}
use Rattle.wb_tenants.proofs.TenantRuns.{starts}
use Rattle.wb_tenants.proofs.owned.start_of.Goals as goal

pub returns-clause-start : goal.returns-clause-start
returns-clause-start g c =
    let parted = starts g.T.Owned.tenant_of g.T.Owned.place_of c.args.tenant c.args.items.now c.requires in
    IsPartitionPoint-from_clause (λ x. is_lt (nat_cmp (g.T.Owned.tenant_of x) c.args.tenant)) c.args.items.now c.partition_point.result c.partition_point.ensures.partitioned parted (λ a r f' called. search rules)
