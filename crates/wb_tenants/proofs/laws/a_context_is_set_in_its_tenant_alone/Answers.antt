use Rattle.std.proofs.Common.{ap}
use Rattle.wb_model.specs.declared.registry.ContextItem.{ContextItem}
use Rattle.wb_model.specs.Openings.{registry_of}
use Rattle.wb_model.specs.Settings.{context_item}
use Rattle.wb_tenants.proofs.TenantParts.{part-inserted, part-beside}
use Rattle.wb_tenants.proofs.laws.a_context_is_set_in_its_tenant_alone.Goals as goal

pub returns-clause-here : goal.returns-clause-here
returns-clause-here c = λ lists t k next sorted.
    let g = registry_of lists t in
    ap (λ contexts. record g { contexts = contexts }) (part-inserted (λ (x : ContextItem). x.tenant) (λ (x : ContextItem). x.id) lists.contexts (context_item t k next) sorted.contexts)

pub returns-clause-others : goal.returns-clause-others
returns-clause-others c = λ lists t k s next ne.
    ap (λ contexts. record (registry_of lists s) { contexts = contexts }) (part-beside (λ (x : ContextItem). x.tenant) (λ (x : ContextItem). x.id) s lists.contexts (context_item t k next) ne)
