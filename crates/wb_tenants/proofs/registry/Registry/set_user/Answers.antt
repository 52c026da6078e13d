use Rattle.wb_tenants.proofs.registry.Registry.set_user.Goals as goal

pub invariant_of-self-3 : goal.invariant_of-self-3
invariant_of-self-3 c = record {
  tenants = c.self.invariant.tenants;
  users = c.put_in.ensures.order;
  forms = c.self.invariant.forms;
  contexts = c.self.invariant.contexts;
}
