use Rattle.std.proofs.Common.{◌∙◌}
use Rattle.wb_tenants.proofs.LookUps.{context-found}
use Rattle.wb_tenants.proofs.registry.Registry.context.Goals as goal

pub returns : goal.returns
returns c = rw (← c.self.view_is, ← c.as_slice.ensures) (c.find_in.ensures ∙ context-found c.as_slice.result.now c.args.tenant c.args.id)
