use Rattle.std.proofs.Common.{sym, subst}
use Rattle.wb_model.specs.declared.registry.Lists.{Lists}
use Rattle.wb_tenants.specs.Sets.{HasTenant}
use Rattle.wb_tables.proofs.Configurations.{still_there}
use Rattle.wb_tables.proofs.configuration.Configuration.set.Goals as goal

pub invariant_of-self : goal.invariant_of-self
invariant_of-self c =
    let t = c.self.inside.tenant in
    subst (λ (lists : Lists). HasTenant lists t) (sym c.set_settings.ensures.set) (still_there c.self.inside.registry.lists t c.in-ToTenant.next c.self.invariant)
