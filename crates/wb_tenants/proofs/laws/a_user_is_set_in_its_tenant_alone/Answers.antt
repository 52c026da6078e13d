use Rattle.std.proofs.Common.{ap}
use Rattle.wb_model.specs.declared.registry.UserItem.{UserItem}
use Rattle.wb_model.specs.Openings.{registry_of}
use Rattle.wb_model.specs.Settings.{user_item}
use Rattle.wb_model.specs.Tables.{user}
use Rattle.wb_tenants.proofs.TenantParts.{part-inserted, part-beside}
use Rattle.wb_tenants.proofs.laws.a_user_is_set_in_its_tenant_alone.Goals as goal

pub returns-clause-here : goal.returns-clause-here
returns-clause-here c = λ lists t u next sorted.
    let g = registry_of lists t in
    ap (λ users. record g { users = users }) (part-inserted (λ (x : UserItem). x.tenant) (λ (x : UserItem). x.id) lists.users (user_item t g.settings.salt u (user u g.users) next) sorted.users)

pub returns-clause-others : goal.returns-clause-others
returns-clause-others c = λ lists t u s next ne.
    let g = registry_of lists t in
    ap (λ users. record (registry_of lists s) { users = users }) (part-beside (λ (x : UserItem). x.tenant) (λ (x : UserItem). x.id) s lists.users (user_item t g.settings.salt u (user u g.users) next) ne)
