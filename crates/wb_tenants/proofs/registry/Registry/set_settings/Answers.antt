use Rattle.std.proofs.Common.{ap, sym, subst}
use Rattle.std.specs.Cmp.{nat_cmp_total}
use Rattle.std.specs.Ordering.{nat_cmp}
use Rattle.wb_list.specs.Keyed.{IsAscending}
use Rattle.wb_list.proofs.KeyedLemmas.{ascending-insert_item}
use Rattle.wb_setup.specs.Keys.{tenant_key}
use Rattle.wb_tenants.specs.Sets.{Roomed, HasTenant}
use Rattle.wb_tenants.proofs.registry.Registry.set_settings.Goals as goal

pub set_listed-requires-clause-there : goal.set_listed-requires-clause-there
set_listed-requires-clause-there c =
    let same = ap (λ (r : Roomed). r.lists) c.self.view_is in
    let there : HasTenant c.self.inside.lists c.args.tenant = rw same c.requires in
    there

pub invariant_of-self : goal.invariant_of-self
invariant_of-self c = record {
  tenants = subst (IsAscending nat_cmp tenant_key) (sym c.set_listed.ensures) (ascending-insert_item nat_cmp_total tenant_key _ _ c.self.invariant.tenants);
  users = c.self.invariant.users;
  forms = c.self.invariant.forms;
  contexts = c.self.invariant.contexts;
}
