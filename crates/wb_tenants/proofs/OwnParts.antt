-- A tenant's part of lists is a tenant's part of that part.
use Rattle.std.proofs.Common.{◌≡◌, ℕ, ◌==◌, Bool, true, false, List, [], ◌∷◌, cond, filter, find, unwrap_or, Some, is_some, refl, ap, ◌∙◌}
use Rattle.wb_list.proofs.KeyedLemmas.{ascending-filter}
use Rattle.std.specs.Ordering.{nat_cmp}
use Rattle.wb_model.specs.declared.registry.Lists.{Lists}
use Rattle.wb_model.specs.declared.registry.TenantItem.{TenantItem}
use Rattle.wb_model.specs.declared.registry.UserItem.{UserItem}
use Rattle.wb_model.specs.declared.registry.FormItem.{FormItem}
use Rattle.wb_model.specs.declared.registry.ContextItem.{ContextItem}
use Rattle.wb_model.specs.Openings.{registry_of, no_settings}
use Rattle.wb_tenants.specs.Owned.{own_lists}
use Rattle.wb_setup.specs.Keys.{AreInOrder, tenant_key, key_cmp, user_key, version_key, context_key}
use Rattle.wb_tenants.specs.Sets.{HasTenant, is_tenant}

module _ {X : Type 0} (p : X → Bool) where
  find_own : (xs : List X) → find p (filter p xs) ≡ find p xs
  find_own [] = refl
  find_own (x ∷ xs) = by (p x) refl (find_own xs)
    where
      by : (b : Bool) → p x ≡ b → find p (filter p xs) ≡ find p xs → find p (cond b (x ∷ filter p xs) (filter p xs)) ≡ cond b (Some x) (find p xs)
      by true is rest = rw is refl
      by false is rest = rest

  filter_own : (xs : List X) → filter p (filter p xs) ≡ filter p xs
  filter_own [] = refl
  filter_own (x ∷ xs) = by (p x) refl (filter_own xs)
    where
      by : (b : Bool) → p x ≡ b → filter p (filter p xs) ≡ filter p xs → filter p (cond b (x ∷ filter p xs) (filter p xs)) ≡ cond b (x ∷ filter p xs) (filter p xs)
      by true is rest = rw is (ap (λ l. x ∷ l) rest)
      by false is rest = rest

pub own_order : (t : ℕ) (lists : Lists) → AreInOrder lists → AreInOrder (own_lists t lists)
own_order t lists order = record {
  tenants = ascending-filter nat_cmp tenant_key (λ (x : TenantItem). x.tenant == t) lists.tenants order.tenants;
  users = ascending-filter key_cmp user_key (λ (x : UserItem). x.tenant == t) lists.users order.users;
  forms = ascending-filter key_cmp version_key (λ (x : FormItem). x.tenant == t) lists.forms order.forms;
  contexts = ascending-filter key_cmp context_key (λ (x : ContextItem). x.tenant == t) lists.contexts order.contexts;
}

pub own_registry : (t : ℕ) (lists : Lists) → registry_of (own_lists t lists) t ≡ registry_of lists t
own_registry t lists =
    let settings = find_own (λ (x : TenantItem). x.tenant == t) lists.tenants in
    let users = filter_own (λ (x : UserItem). x.tenant == t) lists.users in
    let forms = filter_own (λ (x : FormItem). x.tenant == t) lists.forms in
    let contexts = filter_own (λ (x : ContextItem). x.tenant == t) lists.contexts in
    λ i. record { settings = unwrap_or (settings i) (no_settings t); users = users i; forms = forms i; contexts = contexts i }

pub own_there : (t : ℕ) (lists : Lists) → HasTenant lists t → HasTenant (own_lists t lists) t
own_there t lists there = ap is_some (find_own (is_tenant t) lists.tenants) ∙ there
