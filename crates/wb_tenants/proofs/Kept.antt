-- What is kept of a tenant stays as it is beside what a setup adds of others.
use Rattle.std.proofs.Common.{◌≡◌, ◌≢◌, ℕ, ◌==◌, not, false, true, List, [], ◌∷◌, filter, find, fold, unwrap_or, Option, refl, sym, ap, ◌∙◌, inl, inr}
use Rattle.std.proofs.lemmas.Bool.{cases_Bool, false≢true}
use Rattle.std.specs.Cmp.{nat_cmp_total}
use Rattle.std.specs.FinMap.{nat_cmp-IsAntisymmetric}
use Rattle.std.specs.Ordering.{nat_cmp}
use Rattle.wb_list.specs.Keyed.{insert_item}
use Rattle.wb_list.proofs.KeyedLookups.{find-beside}
use Rattle.wb_model.specs.declared.registry.Lists.{Lists}
use Rattle.wb_model.specs.declared.registry.TenantItem.{TenantItem}
use Rattle.wb_model.specs.declared.registry.UserItem.{UserItem}
use Rattle.wb_model.specs.declared.registry.FormItem.{FormItem}
use Rattle.wb_model.specs.declared.registry.ContextItem.{ContextItem}
use Rattle.wb_model.specs.Openings.{registry_of, no_settings}
use Rattle.wb_model.specs.Settings.{form_key}
use Rattle.wb_model.specs.SetUps.{has_tenant}
use Rattle.wb_setup.specs.Joined.{joined}
use Rattle.wb_setup.specs.Keys.{key_cmp, tenant_key}
use Rattle.wb_tenants.specs.Sets.{is_tenant}
use Rattle.wb_tenants.proofs.LookUps.{tenant-found}
use Rattle.wb_tenants.proofs.TenantParts.{part-beside}

-- a tenant that is not kept is another than one that is
apart : (kept : Lists) (t s : ℕ) → has_tenant kept t ≡ true → has_tenant kept s ≡ false → s ≢ t
apart kept t s there absent same = false≢true (sym absent ∙ ap (has_tenant kept) same ∙ there)

module _ {T : Type 0} (tenant id : T → ℕ) where
  part_stays : (kept : Lists) (t : ℕ) → has_tenant kept t ≡ true → (xs all : List T)
      → filter (λ x. tenant x == t) (fold (insert_item key_cmp (λ x. (tenant x, id x))) all (filter (λ x. not (has_tenant kept (tenant x))) xs)) ≡ filter (λ x. tenant x == t) all
  part_stays kept t there [] all = refl
  part_stays kept t there (x ∷ xs) all = elim (cases_Bool (has_tenant kept (tenant x))) [
    | inl is ↦ rw is (part_stays kept t there xs all)
    | inr no' ↦ rw no' (part_stays kept t there xs (insert_item key_cmp (λ x. (tenant x, id x)) all x) ∙ part-beside tenant id t all x (apart kept t (tenant x) there no'))
  ]

found_stays : (kept : Lists) (t : ℕ) → has_tenant kept t ≡ true → (xs all : List TenantItem)
    → find (is_tenant t) (fold (insert_item nat_cmp tenant_key) all (filter (λ x. not (has_tenant kept x.tenant)) xs)) ≡ find (is_tenant t) all
found_stays kept t there [] all = refl
found_stays kept t there (x ∷ xs) all = elim (cases_Bool (has_tenant kept x.tenant)) [
  | inl is ↦ rw is (found_stays kept t there xs all)
  | inr no' ↦ rw no' (found_stays kept t there xs (insert_item nat_cmp tenant_key all x)
      ∙ (sym (tenant-found (insert_item nat_cmp tenant_key all x) t) ∙ (find-beside nat_cmp_total tenant_key all x t (λ e. apart kept t x.tenant there no' (nat_cmp-IsAntisymmetric x.tenant t e)) ∙ tenant-found all t)))
]

pub kept_stays : (setup kept : Lists) (t : ℕ) → has_tenant kept t ≡ true → registry_of (joined setup kept) t ≡ registry_of kept t
kept_stays setup kept t there =
    let settings = found_stays kept t there setup.tenants kept.tenants in
    let users = part_stays (λ (x : UserItem). x.tenant) (λ (x : UserItem). x.id) kept t there setup.users kept.users in
    let forms = part_stays (λ (x : FormItem). x.tenant) form_key kept t there setup.forms kept.forms in
    let contexts = part_stays (λ (x : ContextItem). x.tenant) (λ (x : ContextItem). x.id) kept t there setup.contexts kept.contexts in
    ap (λ (o : Option TenantItem). record (registry_of (joined setup kept) t) { settings = unwrap_or o (no_settings t) }) settings
    ∙ ap (λ xs. record (registry_of (joined setup kept) t) { settings = unwrap_or (find (is_tenant t) kept.tenants) (no_settings t); users = xs }) users
    ∙ ap (λ xs. record (registry_of kept t) { forms = xs; contexts = filter (λ (x : ContextItem). x.tenant == t) (joined setup kept).contexts }) forms
    ∙ ap (λ xs. record (registry_of kept t) { contexts = xs }) contexts
