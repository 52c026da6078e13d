use Rattle.std.proofs.Common.{◌≡◌, [], drop, fold}
use Rattle.std.specs.Ordering.{nat_cmp}
use Rattle.wb_list.specs.Keyed.{IsAscending}
use Rattle.wb_setup.specs.Keys.{tenant_key}
use Rattle.wb_setup.specs.Setups.{put_tenant}
use Rattle.wb_setup.proofs.put.tenants_of.Given as goal

abbrev pub invariant-loop-tenant : goal.invariant-loop-tenant
invariant-loop-tenant l = record {
  rest : fold put_tenant l.items.items (drop l.tenant-index l.tenants) ≡ fold put_tenant [] l.tenants;
  order : IsAscending nat_cmp tenant_key l.items.items;
}
