use Rattle.std.proofs.Common.{ap}
use Rattle.wb_model.specs.declared.registry.FormItem.{FormItem}
use Rattle.wb_model.specs.Openings.{registry_of}
use Rattle.wb_model.specs.Settings.{form_key, next_version}
use Rattle.wb_tenants.proofs.TenantParts.{part-inserted, part-beside}
use Rattle.wb_tenants.proofs.laws.a_form_is_set_in_its_tenant_alone.Goals as goal

pub returns-clause-here : goal.returns-clause-here
returns-clause-here c = λ lists t f form sorted.
    let g = registry_of lists t in
    ap (λ forms. record g { forms = forms }) (part-inserted (λ (x : FormItem). x.tenant) form_key lists.forms (record { tenant = t; id = f; version = next_version f g.forms; form = form }) sorted.forms)

pub returns-clause-others : goal.returns-clause-others
returns-clause-others c = λ lists t f s form ne.
    let g = registry_of lists t in
    ap (λ forms. record (registry_of lists s) { forms = forms }) (part-beside (λ (x : FormItem). x.tenant) form_key s lists.forms (record { tenant = t; id = f; version = next_version f g.forms; form = form }) ne)
