use Rattle.wb_tenants.proofs.registry.Registry.set_form.Goals as goal

pub invariant_of-self-3 : goal.invariant_of-self-3
invariant_of-self-3 c = record {
  tenants = c.self.invariant.tenants;
  users = c.self.invariant.users;
  forms = c.put_in.ensures.order;
  contexts = c.self.invariant.contexts;
}
