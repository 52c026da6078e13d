-- What a setup has of tenants that are not kept may be added to what is kept.
use Rattle.std.proofs.Common.{◌≡◌, ℕ, ◌+◌, ◌==◌, ◌&&◌, ◌||◌, nat_le, not, Bool, true, false, List, [], ◌∷◌, filter, cond, refl, sym, ap, ◌∙◌, eqb-true, eq-eqb}
use Rattle.std.proofs.lemmas.Bool.{and_parts, and_from, or_left, or_right, or_from, not-true, false≢true}
use Rattle.std.specs.Cmp.{nat_cmp_total, unsigned_ties}
use Rattle.std.specs.List.{list_any, list_all, AllByRecursion}
use Rattle.wb_base.specs.AnswerList.{is_text}
use Rattle.wb_model.specs.declared.registry.ContextItem.{ContextItem}
use Rattle.wb_model.specs.declared.registry.FormItem.{FormItem}
use Rattle.wb_model.specs.declared.registry.Lists.{Lists}
use Rattle.wb_model.specs.declared.registry.TenantItem.{TenantItem}
use Rattle.wb_model.specs.Settings.{form_key}
use Rattle.wb_model.specs.SetUps.{is_tenant_item, is_user_item, is_form_item, is_context_item, are_apart, has_tenant, has_form, has_recipients, follows, same_user_name, tenant_ids, AreSetUp}
use Rattle.wb_setup.specs.Joined.{others_of, joined}
use Rattle.wb_setup.specs.Keys.{tenant_key}
use Rattle.wb_setup.proofs.Groups.{all_so, each_one, all_pass, eq_back, IsOwn, IsOneOf, own_keys}
use Rattle.wb_setup.proofs.Joining.{of_user, user_id, of_form, of_context, context_id, same_tenants, same_users, same_versions, same_contexts, is_that, reads, is_reader_in, has_readers, readers_there, MayAdd, joined_set_up}
use Rattle.wb_setup.proofs.Orders.{key, key_total, ascending, ids_sorted}
use Rattle.wb_setup.proofs.Puts.{Adds, adds, apart_fewer, apart_ascending}

-- ---- some of a list

pub all_fewer : {X : Type 0} (p q r : X → Bool) → ((x : X) → p x ≡ true → q x ≡ true → r x ≡ true) → (xs : List X) → list_all q xs ≡ true → list_all r (filter p xs) ≡ true
all_fewer p q r h [] all = refl
all_fewer p q r h (x ∷ xs) all = let parts = and_parts (q x) (list_all q xs) all in by (p x) refl parts.0 (all_fewer p q r h xs parts.1)
  where
    by : (b : Bool) → p x ≡ b → q x ≡ true → list_all r (filter p xs) ≡ true → list_all r (cond b (x ∷ filter p xs) (filter p xs)) ≡ true
    by true is so rest = and_from (r x) (list_all r (filter p xs)) (h x is so) rest
    by false is so rest = rest

-- one that is taken over stays one of them
any_taken : {X : Type 0} (p q : X → Bool) → ((x : X) → q x ≡ true → p x ≡ true) → (xs : List X) → list_any q xs ≡ true → list_any q (filter p xs) ≡ true
any_taken p q h [] some = some
any_taken p q h (x ∷ xs) some = by (q x) refl (p x) refl some (λ e. any_taken p q h xs e)
  where
    by : (b : Bool) → q x ≡ b → (c : Bool) → p x ≡ c → (b || list_any q xs) ≡ true → (list_any q xs ≡ true → list_any q (filter p xs) ≡ true) → list_any q (cond c (x ∷ filter p xs) (filter p xs)) ≡ true
    by true is true in' e rest = or_left (q x) (list_any q (filter p xs)) is
    by true is false out e rest = absurd (false≢true (sym out ∙ h x is))
    by false is true in' e rest = or_right (q x) (list_any q (filter p xs)) (rest e)
    by false is false out e rest = rest e

-- the second is the version before the first
abbrev is_before : FormItem → FormItem → Bool
is_before x y = (y.tenant == x.tenant) && (y.id == x.id) && (y.version + 1 == x.version)

module _ (setup kept : Lists) (up : AreSetUp setup) (was : AreSetUp kept) where
  abbrev is_other : ℕ → Bool
  is_other t = not (has_tenant kept t)

  abbrev more : Lists
  more = others_of setup kept

  -- what is of the tenant of another that is not kept is not kept
  other_too : (s t : ℕ) → (s == t) ≡ true → is_other t ≡ true → is_other s ≡ true
  other_too s t same other = ap is_other (eqb-true s t same) ∙ other

  module _ {T : Type 0} (tenant : T → ℕ) (same : T → T → Bool) (own : IsOwn tenant same) where
    none_kept : (x : T) → is_other (tenant x) ≡ true → (ys : List T) → list_all (λ y. has_tenant kept (tenant y)) ys ≡ true → list_any (same x) ys ≡ false
    none_kept x other [] all = refl
    none_kept x other (y ∷ ys) all =
        let parts = and_parts (has_tenant kept (tenant y)) (list_all (λ z. has_tenant kept (tenant z)) ys) all in
        or_from (same x y) (list_any (same x) ys) (by (tenant x == tenant y) refl parts.0) (none_kept x other ys parts.1)
      where
        by : (b : Bool) → (tenant x == tenant y) ≡ b → has_tenant kept (tenant y) ≡ true → same x y ≡ false
        by true is there = absurd (false≢true (sym (not-true _ other) ∙ (ap (has_tenant kept) (eqb-true (tenant x) (tenant y) is) ∙ there)))
        by false is there = own x y is

    none_kept_all : (ys : List T) → list_all (λ y. has_tenant kept (tenant y)) ys ≡ true → (xs : List T) → AllByRecursion (λ x. list_any (same x) ys ≡ false) (filter (λ x. is_other (tenant x)) xs)
    none_kept_all ys all [] = tt
    none_kept_all ys all (x ∷ xs) = by (is_other (tenant x)) refl (none_kept_all ys all xs)
      where
        by : (b : Bool) → is_other (tenant x) ≡ b → AllByRecursion (λ z. list_any (same z) ys ≡ false) (filter (λ z. is_other (tenant z)) xs) → AllByRecursion (λ z. list_any (same z) ys ≡ false) (cond b (x ∷ filter (λ z. is_other (tenant z)) xs) (filter (λ z. is_other (tenant z)) xs))
        by true is rest = (none_kept x is ys all, rest)
        by false is rest = rest

    -- a setup's things of other tenants are new
    others_new : (xs ys : List T) → are_apart same xs ≡ true → list_all (λ y. has_tenant kept (tenant y)) ys ≡ true → Adds same ys (filter (λ x. is_other (tenant x)) xs)
    others_new xs ys apart all = adds same ys (filter (λ x. is_other (tenant x)) xs) (apart_fewer (λ x. is_other (tenant x)) same xs apart) (none_kept_all ys all xs)

  own_tenants : IsOwn (λ (x : TenantItem). x.tenant) same_tenants
  own_tenants x y off = sym (unsigned_ties y.tenant x.tenant) ∙ (eq_back y.tenant x.tenant ∙ off)

  own_names : IsOwn of_user same_user_name
  own_names x y off = ap (λ b. b && is_text x.name y.name) off

  kept_there : list_all (λ (x : TenantItem). has_tenant kept x.tenant) kept.tenants ≡ true
  kept_there = all_so (IsOneOf kept.tenants) (λ x. has_tenant kept x.tenant) (λ x one. one (λ y. y.tenant == x.tenant) (eq-eqb x.tenant x.tenant refl)) kept.tenants (each_one kept.tenants)

  -- a tenant of the setup that is not kept is one of the others
  tenant_other : (t : ℕ) → is_other t ≡ true → has_tenant setup t ≡ true → has_tenant more t ≡ true
  tenant_other t other there = any_taken (λ x. is_other x.tenant) (λ x. x.tenant == t) (λ x same. other_too x.tenant t same other) setup.tenants there

  before_other : (x y : FormItem) → is_other x.tenant ≡ true → is_before x y ≡ true → is_other y.tenant ≡ true
  before_other x y other is = other_too y.tenant x.tenant (and_parts (y.tenant == x.tenant) (y.id == x.id) (and_parts ((y.tenant == x.tenant) && (y.id == x.id)) (y.version + 1 == x.version) is).0).0 other

  follows_other : (x : FormItem) → is_other x.tenant ≡ true → follows setup x ≡ true → follows more x ≡ true
  follows_other x other is = by (nat_le x.version 1) is
    where
      by : (b : Bool) → (b || list_any (is_before x) setup.forms) ≡ true → (b || list_any (is_before x) more.forms) ≡ true
      by true e = refl
      by false e = any_taken (λ y. is_other y.tenant) (is_before x) (λ y before. before_other x y other before) setup.forms e

  form_other : (c : ContextItem) → is_other c.tenant ≡ true → has_form setup c ≡ true → has_form more c ≡ true
  form_other c other is = any_taken (λ x. is_other x.tenant) (λ x. (x.tenant == c.tenant) && (x.id == c.form)) (λ x e. other_too x.tenant c.tenant (and_parts (x.tenant == c.tenant) (x.id == c.form) e).0 other) setup.forms is

  reader_other : (t u : ℕ) → is_other t ≡ true → is_reader_in setup.users t u ≡ true → is_reader_in more.users t u ≡ true
  reader_other t u other is = any_taken (λ x. is_other x.tenant) (λ x. is_that t u x && reads x) (λ x e. other_too x.tenant t (and_parts (x.tenant == t) (x.id == u) (and_parts (is_that t u x) (reads x) e).0).0 other) setup.users is

  readers_other : (c : ContextItem) → is_other c.tenant ≡ true → has_recipients setup c ≡ true → has_readers more c ≡ true
  readers_other c other is = all_pass (is_reader_in setup.users c.tenant) (is_reader_in more.users c.tenant) (λ u one. reader_other c.tenant u other one) c.recipients (readers_there setup c is)

  others_may : MayAdd kept more
  others_may =
      let two = and_parts (list_all (λ x. has_tenant setup x.tenant) setup.users && list_all (λ x. has_tenant setup x.tenant) setup.forms) (list_all (λ x. has_tenant setup x.tenant) setup.contexts) up.owned in
      let one = and_parts (list_all (λ x. has_tenant setup x.tenant) setup.users) (list_all (λ x. has_tenant setup x.tenant) setup.forms) two.0 in
      let two' = and_parts (list_all (λ x. has_tenant kept x.tenant) kept.users && list_all (λ x. has_tenant kept x.tenant) kept.forms) (list_all (λ x. has_tenant kept x.tenant) kept.contexts) was.owned in
      let one' = and_parts (list_all (λ x. has_tenant kept x.tenant) kept.users) (list_all (λ x. has_tenant kept x.tenant) kept.forms) two'.0 in
      record {
        tenants = all_fewer (λ x. is_other x.tenant) is_tenant_item is_tenant_item (λ x other is. is) setup.tenants up.tenants;
        users = all_fewer (λ x. is_other x.tenant) is_user_item is_user_item (λ x other is. is) setup.users up.users;
        forms = all_fewer (λ x. is_other x.tenant) is_form_item is_form_item (λ x other is. is) setup.forms up.forms;
        contexts = all_fewer (λ x. is_other x.tenant) is_context_item is_context_item (λ x other is. is) setup.contexts up.contexts;
        new_tenants = others_new (λ (x : TenantItem). x.tenant) same_tenants own_tenants setup.tenants kept.tenants (apart_ascending nat_cmp_total tenant_key setup.tenants (ids_sorted (tenant_ids setup) up.order)) kept_there;
        new_users = others_new of_user same_users (own_keys of_user user_id) setup.users kept.users (apart_ascending key_total (key of_user user_id) setup.users (ascending of_user user_id setup.users up.user_ids)) one'.0;
        new_names = others_new of_user same_user_name own_names setup.users kept.users up.user_names one'.0;
        new_versions = others_new of_form same_versions (own_keys of_form form_key) setup.forms kept.forms (apart_ascending key_total (key of_form form_key) setup.forms (ascending of_form form_key setup.forms up.versions)) one'.1;
        new_contexts = others_new of_context same_contexts (own_keys of_context context_id) setup.contexts kept.contexts (apart_ascending key_total (key of_context context_id) setup.contexts (ascending of_context context_id setup.contexts up.context_ids)) two'.1;
        of_users = all_fewer (λ x. is_other x.tenant) (λ x. has_tenant setup x.tenant) (λ x. has_tenant more x.tenant) (λ x other is. tenant_other x.tenant other is) setup.users one.0;
        of_forms = all_fewer (λ x. is_other x.tenant) (λ x. has_tenant setup x.tenant) (λ x. has_tenant more x.tenant) (λ x other is. tenant_other x.tenant other is) setup.forms one.1;
        of_contexts = all_fewer (λ x. is_other x.tenant) (λ x. has_tenant setup x.tenant) (λ x. has_tenant more x.tenant) (λ x other is. tenant_other x.tenant other is) setup.contexts two.1;
        gapless = all_fewer (λ x. is_other x.tenant) (follows setup) (follows more) (λ x other is. follows_other x other is) setup.forms up.gapless;
        asked = all_fewer (λ x. is_other x.tenant) (has_form setup) (has_form more) (λ x other is. form_other x other is) setup.contexts up.asked;
        recipients = all_fewer (λ x. is_other x.tenant) (has_recipients setup) (has_readers more) (λ x other is. readers_other x other is) setup.contexts up.recipients;
      }

-- what is kept, and what of a setup is of other tenants, is set up where both are
pub joined_are_set_up : (setup kept : Lists) → AreSetUp setup → AreSetUp kept → AreSetUp (joined setup kept)
joined_are_set_up setup kept up was = joined_set_up kept (others_of setup kept) was (others_may setup kept up was)
