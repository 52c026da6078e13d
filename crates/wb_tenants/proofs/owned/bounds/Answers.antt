use Rattle.std.proofs.Common.{arith, ◌-◌}
use Rattle.std.specs.Ordering.{nat_cmp}
use Rattle.wb_list.proofs.KeyedRuns.{run_ordered}
use Rattle.wb_tenants.proofs.TenantRuns.{part_between}
use Rattle.wb_tenants.proofs.owned.bounds.Goals as goal

pub returns-clause-start : goal.returns-clause-start
returns-clause-start g c = run_ordered (λ x. nat_cmp (g.T.Owned.tenant_of x) c.args.tenant) c.args.items.now c.start_of.result c.end_of.result c.start_of.ensures.start c.end_of.ensures.end c.start_of.ensures.bound

pub returns-clause-part : goal.returns-clause-part
returns-clause-part g c =
    part_between g.T.Owned.tenant_of g.T.Owned.place_of c.args.tenant c.args.items.now c.start_of.result c.end_of.result (c.end_of.result - c.start_of.result) (omega (arith, returns-clause-start g c)) c.start_of.ensures.start c.end_of.ensures.end c.start_of.ensures.bound c.end_of.ensures.bound
