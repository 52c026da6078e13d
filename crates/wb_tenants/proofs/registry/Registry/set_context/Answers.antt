use Rattle.wb_tenants.proofs.registry.Registry.set_context.Goals as goal

pub invariant_of-self-2 : goal.invariant_of-self-2
invariant_of-self-2 c = record {
  tenants = c.self.invariant.tenants;
  users = c.self.invariant.users;
  forms = c.self.invariant.forms;
  contexts = c.put_in.ensures.order;
}
