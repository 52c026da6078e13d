-- Look-ups by the order of keys find what those in a tenant's part of the lists find.
use Rattle.std.proofs.Common.{◌≡◌, ℕ, ◌==◌, ◌&&◌, Bool, true, false, List, [], ◌∷◌, cond, find, filter, Some, refl, sym, ap, ◌∙◌}
use Rattle.std.specs.Cmp.{both_tied, unsigned_ties}
use Rattle.std.specs.Ordering.{nat_cmp}
use Rattle.wb_base.proofs.AnswerLemmas.{find-same}
use Rattle.wb_list.specs.Keyed.{has_key}
use Rattle.wb_model.specs.declared.registry.ContextItem.{ContextItem}
use Rattle.wb_model.specs.declared.registry.TenantItem.{TenantItem}
use Rattle.wb_model.specs.declared.registry.UserItem.{UserItem}
use Rattle.wb_setup.specs.Keys.{tenant_key, key_cmp, user_key, context_key}
use Rattle.wb_model.specs.Tables.{user, context}
use Rattle.wb_tenants.specs.Sets.{is_tenant}

-- what is found in a part is what is found with the part's test besides
pub find-part : {X : Type 0} (p q : X → Bool) (xs : List X) → find (λ x. q x && p x) xs ≡ find p (filter q xs)
find-part p q [] = refl
find-part p q (x ∷ xs) = elim (q x) as (λ b. find (λ x. q x && p x) xs ≡ find p (filter q xs) → cond (b && p x) (Some x) (find (λ x. q x && p x) xs) ≡ find p (cond b (x ∷ filter q xs) (filter q xs))) [
  | true ↦ λ rest. ap (λ r. cond (p x) (Some x) r) rest
  | false ↦ λ rest. rest
] (find-part p q xs)

pub tenant-found : (xs : List TenantItem) (t : ℕ) → find (has_key nat_cmp tenant_key t) xs ≡ find (is_tenant t) xs
tenant-found xs t = sym (find-same (is_tenant t) (has_key nat_cmp tenant_key t) (λ x. unsigned_ties x.tenant t) xs)

pub user-found : (xs : List UserItem) (t u : ℕ) → find (has_key key_cmp user_key (t, u)) xs ≡ user u (filter (λ x. x.tenant == t) xs)
user-found xs t u =
    sym (find-same (λ (x : UserItem). (x.tenant == t) && (x.id == u)) (has_key key_cmp user_key (t, u)) (λ x. both_tied _ _ _ _ (unsigned_ties x.tenant t) (unsigned_ties x.id u)) xs)
    ∙ find-part (λ (x : UserItem). x.id == u) (λ (x : UserItem). x.tenant == t) xs

pub context-found : (xs : List ContextItem) (t c : ℕ) → find (has_key key_cmp context_key (t, c)) xs ≡ context c (filter (λ x. x.tenant == t) xs)
context-found xs t c =
    sym (find-same (λ (x : ContextItem). (x.tenant == t) && (x.id == c)) (has_key key_cmp context_key (t, c)) (λ x. both_tied _ _ _ _ (unsigned_ties x.tenant t) (unsigned_ties x.id c)) xs)
    ∙ find-part (λ (x : ContextItem). x.id == c) (λ (x : ContextItem). x.tenant == t) xs
