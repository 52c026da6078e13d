-- What a tenant is set up with, as its settings change.
use Rattle.std.proofs.Common.{◌≡◌, ℕ, Option, sym, ap, ◌∙◌}
use Rattle.std.specs.Prelude.{is_some, IfOk, Result, Ok, Err}
use Rattle.std.specs.Cmp.{nat_cmp_is}
use Rattle.std.specs.Ordering.{nat_cmp}
use Rattle.std.specs.declared.cmp.Ordering.TheVariants.{Equal}
use Rattle.std.proofs.lemmas.Cmp.{nat_cmp_total}
use Rattle.wb_list.specs.Keyed.{insert_item}
use Rattle.wb_list.proofs.KeyedLookups.{find-inserted}
use Rattle.wb_base.specs.declared.rows.Row.{Row}
use Rattle.wb_model.specs.declared.command.SettingsSet.{SettingsSet}
use Rattle.wb_model.specs.declared.registry.Lists.{Lists}
use Rattle.wb_model.specs.declared.registry.TenantItem.{TenantItem}
use Rattle.wb_model.specs.declared.setting.AdminFault.{AdminFault}
use Rattle.wb_model.specs.Openings.{registry_of}
use Rattle.wb_model.specs.Rows.{row, settings_data}
use Rattle.wb_setup.specs.Keys.{tenant_key}
use Rattle.wb_tenants.specs.Sets.{HasTenant, set_tenant, with_settings}
use Rattle.wb_tenants.proofs.LookUps.{tenant-found}
use Rattle.wb_tenants.proofs.TenantSettings.{found_is}
use Rattle.wb_tables.specs.Configured.{row_of}
use Rattle.wb_tables.specs.declared.proposal.Proposal.{Proposal}
use Rattle.wb_tables.specs.declared.proposal.Proposal.TheVariants.{ToTenant}

-- the row of new settings is under the tenant's number
pub settings_row : (lists : Lists) (t : ℕ) (p : Proposal) (next : SettingsSet) (r : Result Row AdminFault) → p ≡ ToTenant next → HasTenant lists t
    → IfOk r (λ kept. kept ≡ row 1 (set_tenant next (registry_of lists t).settings).tenant 0 0 (settings_data (set_tenant next (registry_of lists t).settings))) → IfOk r (λ kept. kept ≡ row_of t (registry_of lists t) p)
settings_row lists t p next (Ok kept) asked there is =
    is ∙ (ap (λ n. row 1 n 0 0 (settings_data (set_tenant next (registry_of lists t).settings))) (found_is lists.tenants t there) ∙ sym (ap (row_of t (registry_of lists t)) asked))
settings_row lists t p next (Err fault) asked there is = tt

-- a tenant is still there with new settings
pub still_there : (lists : Lists) (t : ℕ) (next : SettingsSet) → HasTenant lists t → HasTenant (with_settings t next lists) t
still_there lists t next there =
    let item : TenantItem = set_tenant next (registry_of lists t).settings in
    let is : item.tenant ≡ t = found_is lists.tenants t there in
    let found = sym (tenant-found (insert_item nat_cmp tenant_key lists.tenants item) t) ∙ find-inserted nat_cmp_total tenant_key lists.tenants item t (sym (nat_cmp_is item.tenant t Equal is)) in
    ap (λ (o : Option TenantItem). is_some o) found
