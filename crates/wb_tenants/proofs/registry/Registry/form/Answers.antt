use Rattle.std.proofs.Common.{◌∙◌, ap, option_and_then}
use Rattle.wb_base.specs.FormShape.{keep}
use Rattle.wb_tenants.specs.Sets.{is_version}
use Rattle.wb_tenants.proofs.Versions.{version-found}
use Rattle.wb_tenants.proofs.registry.Registry.form.Goals as goal

pub returns : goal.returns
returns c = rw (← c.self.view_is, ← c.as_slice.ensures) (c.kept_version.ensures ∙ ap (option_and_then (keep (is_version c.args.id c.args.version))) (rw c.form_place.ensures at c.find_in.ensures) ∙ version-found c.as_slice.result.now c.args.tenant c.args.id c.args.version (rw c.as_slice.ensures c.self.invariant.forms))
