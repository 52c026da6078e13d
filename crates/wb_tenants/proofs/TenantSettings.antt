-- New settings of a tenant stand in its registry alone.
use Rattle.std.proofs.Common.{◌≡◌, ◌≢◌, ℕ, ◌==◌, true, List, [], ◌∷◌, find, unwrap_or, is_some, Option, refl, sym, ap, ◌∙◌, inl, inr}
use Rattle.std.proofs.lemmas.Bool.{cases_Bool, eqb-true}
use Rattle.std.specs.Cmp.{nat_cmp_is, nat_cmp_total}
use Rattle.std.specs.FinMap.{nat_cmp-IsAntisymmetric}
use Rattle.std.specs.Ordering.{nat_cmp}
use Rattle.std.specs.declared.cmp.Ordering.TheVariants.{Equal}
use Rattle.wb_list.specs.Keyed.{insert_item}
use Rattle.wb_list.proofs.KeyedLookups.{find-inserted, find-beside}
use Rattle.wb_model.specs.declared.command.SettingsSet.{SettingsSet}
use Rattle.wb_model.specs.declared.registry.TenantItem.{TenantItem}
use Rattle.wb_model.specs.Openings.{registry_of, no_settings}
use Rattle.wb_model.specs.declared.registry.Lists.{Lists}
use Rattle.wb_setup.specs.Keys.{tenant_key}
use Rattle.wb_model.specs.Settings.{OfTenant, configured}
use Rattle.wb_tenants.specs.Sets.{HasTenant, is_tenant, set_tenant, with_settings}
use Rattle.wb_tenants.proofs.LookUps.{tenant-found}

-- what is found of a tenant is of it
pub found_is : (xs : List TenantItem) (t : ℕ) → is_some (find (is_tenant t) xs) ≡ true → (unwrap_or (find (is_tenant t) xs) (no_settings t)).tenant ≡ t
found_is [] t there = refl
found_is (x ∷ xs) t there = elim (cases_Bool (x.tenant == t)) [
  | inl is ↦ rw is (eqb-true x.tenant t is)
  | inr no' ↦ rw no' (found_is xs t (rw no' at there))
]

-- the item that is put in
abbrev set_item : ℕ → SettingsSet → Lists → TenantItem
set_item t next lists = set_tenant next (registry_of lists t).settings

pub settings_here : (lists : Lists) (t : ℕ) (next : SettingsSet) → HasTenant lists t → registry_of (with_settings t next lists) t ≡ configured (OfTenant next) (registry_of lists t)
settings_here lists t next there =
    let is = found_is lists.tenants t there in
    let item = set_item t next lists in
    let found = sym (tenant-found (insert_item nat_cmp tenant_key lists.tenants item) t) ∙ find-inserted nat_cmp_total tenant_key lists.tenants item t (sym (nat_cmp_is item.tenant t Equal is)) in
    ap (λ (o : Option TenantItem). record (registry_of lists t) { settings = unwrap_or o (no_settings t) }) found

pub settings_beside : (lists : Lists) (t s : ℕ) (next : SettingsSet) → HasTenant lists t → t ≢ s → registry_of (with_settings t next lists) s ≡ registry_of lists s
settings_beside lists t s next there ne =
    let is = found_is lists.tenants t there in
    let item = set_item t next lists in
    let same = sym (tenant-found (insert_item nat_cmp tenant_key lists.tenants item) s) ∙ (find-beside nat_cmp_total tenant_key lists.tenants item s (λ e. ne (sym is ∙ nat_cmp-IsAntisymmetric item.tenant s e)) ∙ tenant-found lists.tenants s) in
    ap (λ (o : Option TenantItem). record (registry_of lists s) { settings = unwrap_or o (no_settings s) }) same
