-- Lists that keep the rules of set-up lists keep them with items of other tenants.
use Rattle.std.proofs.Common.{◌≡◌, ℕ, ◌+◌, ◌==◌, ◌&&◌, ◌||◌, nat_le, Bool, true, false, List, [], ◌∷◌, refl, sym, ap, ◌∙◌, eq-eqb, eqb-true}
use Rattle.std.proofs.lemmas.Bool.{and_parts, and_from, or_left, or_right}
use Rattle.std.specs.Cmp.{nat_cmp_total}
use Rattle.std.specs.List.{list_any, list_all}
use Rattle.wb_base.specs.AnswerList.{is_text}
use Rattle.wb_base.specs.declared.callers.Role.TheVariants.{Recipient}
use Rattle.wb_model.specs.declared.registry.ContextItem.{ContextItem}
use Rattle.wb_model.specs.declared.registry.FormItem.{FormItem}
use Rattle.wb_model.specs.declared.registry.Lists.{Lists}
use Rattle.wb_model.specs.declared.registry.TenantItem.{TenantItem}
use Rattle.wb_model.specs.declared.registry.UserItem.{UserItem}
use Rattle.wb_model.specs.Settings.{form_key}
use Rattle.wb_model.specs.SetUps.{is_tenant_item, is_user_item, is_form_item, is_context_item, are_apart, are_owned, has_tenant, has_form, is_recipient_of, has_recipients, follows, same_user_name, tenant_ids, AreSetUp}
use Rattle.wb_model.specs.Tables.{same_role}
use Rattle.wb_setup.specs.Joined.{lists_with}
use Rattle.wb_setup.specs.Keys.{tenant_key}
use Rattle.wb_setup.proofs.Groups.{all_pass, eq_back, key_ties}
use Rattle.wb_setup.proofs.Orders.{key, key_total, ordered, ascending, ids_ascend, ids_sorted, any_found, found_any}
use Rattle.wb_setup.proofs.Puts.{Adds, IsMutual, same_key, any_puts, all_puts, apart_puts, ascending_puts, apart_ascending}

-- ---- whose a thing is, and which it is

abbrev pub of_user : UserItem → ℕ
of_user x = x.tenant

abbrev pub user_id : UserItem → ℕ
user_id x = x.id

abbrev pub of_form : FormItem → ℕ
of_form x = x.tenant

abbrev pub of_context : ContextItem → ℕ
of_context x = x.tenant

abbrev pub context_id : ContextItem → ℕ
context_id x = x.id

abbrev pub same_tenants : TenantItem → TenantItem → Bool
same_tenants x y = same_key nat_cmp_total tenant_key x y

abbrev pub same_users : UserItem → UserItem → Bool
same_users x y = same_key key_total (key of_user user_id) x y

abbrev pub same_versions : FormItem → FormItem → Bool
same_versions x y = same_key key_total (key of_form form_key) x y

abbrev pub same_contexts : ContextItem → ContextItem → Bool
same_contexts x y = same_key key_total (key of_context context_id) x y

text_back : (s t : List ℕ) → is_text s t ≡ is_text t s
text_back [] [] = refl
text_back [] (b ∷ bs) = refl
text_back (a ∷ as') [] = refl
text_back (a ∷ as') (b ∷ bs) = ap (λ x. x && is_text as' bs) (eq_back a b) ∙ ap (λ x. (b == a) && x) (text_back as' bs)

names_back : IsMutual same_user_name
names_back x y = ap (λ b. b && is_text x.name y.name) (eq_back x.tenant y.tenant) ∙ ap (λ b. (y.tenant == x.tenant) && b) (text_back x.name y.name)

-- ---- recipients

-- the user of this id
abbrev pub is_that : ℕ → ℕ → UserItem → Bool
is_that t u x = (x.tenant == t) && (x.id == u)

abbrev pub reads : UserItem → Bool
reads x = same_role x.role Recipient

-- one of the users is a recipient of this id
abbrev pub is_reader_in : List UserItem → ℕ → ℕ → Bool
is_reader_in users t u = list_any (λ x. is_that t u x && reads x) users

abbrev pub has_readers : Lists → ContextItem → Bool
has_readers lists c = list_all (is_reader_in lists.users c.tenant) c.recipients

pub readers_there : (lists : Lists) (c : ContextItem) → has_recipients lists c ≡ true → has_readers lists c ≡ true
readers_there lists c all = all_pass (is_recipient_of lists c.tenant) (is_reader_in lists.users c.tenant) (λ u is. any_found (is_that c.tenant u) reads lists.users is) c.recipients all

those_tie : (t u : ℕ) (x y : UserItem) → is_that t u x ≡ true → is_that t u y ≡ true → same_users x y ≡ true
those_tie t u x y one other =
    let a = and_parts (x.tenant == t) (x.id == u) one in
    let b = and_parts (y.tenant == t) (y.id == u) other in
    key_ties of_user user_id x y ∙ and_from (y.tenant == x.tenant) (y.id == x.id) (both y.tenant x.tenant t b.0 a.0) (both y.id x.id u b.1 a.1)
  where
    both : (m n k : ℕ) → (m == k) ≡ true → (n == k) ≡ true → (m == n) ≡ true
    both m n k p q = eq-eqb m n (eqb-true m k p ∙ sym (eqb-true n k q))

recipients_there : (lists : Lists) (c : ContextItem) → are_apart same_users lists.users ≡ true → has_readers lists c ≡ true → has_recipients lists c ≡ true
recipients_there lists c apart all = all_pass (is_reader_in lists.users c.tenant) (is_recipient_of lists c.tenant) (λ u is. found_any (is_that c.tenant u) reads same_users (those_tie c.tenant u) lists.users apart is) c.recipients all

-- ---- what may be added

-- items in their ranges, apart from those before and from each other, and whole among themselves
pub record MayAdd (before more : Lists) : Type 0 where
  pub tenants : list_all is_tenant_item more.tenants ≡ true
  pub users : list_all is_user_item more.users ≡ true
  pub forms : list_all is_form_item more.forms ≡ true
  pub contexts : list_all is_context_item more.contexts ≡ true
  pub new_tenants : Adds same_tenants before.tenants more.tenants
  pub new_users : Adds same_users before.users more.users
  pub new_names : Adds same_user_name before.users more.users
  pub new_versions : Adds same_versions before.forms more.forms
  pub new_contexts : Adds same_contexts before.contexts more.contexts
  pub of_users : list_all (λ x. has_tenant more x.tenant) more.users ≡ true
  pub of_forms : list_all (λ x. has_tenant more x.tenant) more.forms ≡ true
  pub of_contexts : list_all (λ x. has_tenant more x.tenant) more.contexts ≡ true
  pub gapless : list_all (follows more) more.forms ≡ true
  pub asked : list_all (has_form more) more.contexts ≡ true
  pub recipients : list_all (has_readers more) more.contexts ≡ true

-- what some are, where they are some of two parts
from_first : (a b c : Bool) → c ≡ (a || b) → a ≡ true → c ≡ true
from_first a b c is so = is ∙ or_left a b so

from_second : (a b c : Bool) → c ≡ (a || b) → b ≡ true → c ≡ true
from_second a b c is so = is ∙ or_right a b so

module _ (before more : Lists) (up : AreSetUp before) (may : MayAdd before more) where
  abbrev all : Lists
  all = lists_with before more

  any_tenants : (P : TenantItem → Bool) → list_any P all.tenants ≡ (list_any P more.tenants || list_any P before.tenants)
  any_tenants P = any_puts nat_cmp_total tenant_key P more.tenants before.tenants may.new_tenants

  any_users : (P : UserItem → Bool) → list_any P all.users ≡ (list_any P more.users || list_any P before.users)
  any_users P = any_puts key_total (key of_user user_id) P more.users before.users may.new_users

  any_forms : (P : FormItem → Bool) → list_any P all.forms ≡ (list_any P more.forms || list_any P before.forms)
  any_forms P = any_puts key_total (key of_form form_key) P more.forms before.forms may.new_versions

  all_users : (P : UserItem → Bool) → list_all P more.users ≡ true → list_all P before.users ≡ true → list_all P all.users ≡ true
  all_users P a b = all_puts key_total (key of_user user_id) P more.users before.users a b

  all_forms : (P : FormItem → Bool) → list_all P more.forms ≡ true → list_all P before.forms ≡ true → list_all P all.forms ≡ true
  all_forms P a b = all_puts key_total (key of_form form_key) P more.forms before.forms a b

  all_contexts : (P : ContextItem → Bool) → list_all P more.contexts ≡ true → list_all P before.contexts ≡ true → list_all P all.contexts ≡ true
  all_contexts P a b = all_puts key_total (key of_context context_id) P more.contexts before.contexts a b

  tenant_new : (t : ℕ) → has_tenant more t ≡ true → has_tenant all t ≡ true
  tenant_new t is = from_first _ (has_tenant before t) _ (any_tenants (λ x. x.tenant == t)) is

  tenant_before : (t : ℕ) → has_tenant before t ≡ true → has_tenant all t ≡ true
  tenant_before t is = from_second (has_tenant more t) _ _ (any_tenants (λ x. x.tenant == t)) is

  follows_new : (x : FormItem) → follows more x ≡ true → follows all x ≡ true
  follows_new x is = by (nat_le x.version 1) is
    where
      by : (b : Bool) → (b || list_any (λ y. (y.tenant == x.tenant) && (y.id == x.id) && (y.version + 1 == x.version)) more.forms) ≡ true → (b || list_any (λ y. (y.tenant == x.tenant) && (y.id == x.id) && (y.version + 1 == x.version)) all.forms) ≡ true
      by true e = refl
      by false e = from_first _ (list_any (λ y. (y.tenant == x.tenant) && (y.id == x.id) && (y.version + 1 == x.version)) before.forms) _ (any_forms (λ y. (y.tenant == x.tenant) && (y.id == x.id) && (y.version + 1 == x.version))) e

  follows_before : (x : FormItem) → follows before x ≡ true → follows all x ≡ true
  follows_before x is = by (nat_le x.version 1) is
    where
      by : (b : Bool) → (b || list_any (λ y. (y.tenant == x.tenant) && (y.id == x.id) && (y.version + 1 == x.version)) before.forms) ≡ true → (b || list_any (λ y. (y.tenant == x.tenant) && (y.id == x.id) && (y.version + 1 == x.version)) all.forms) ≡ true
      by true e = refl
      by false e = from_second (list_any (λ y. (y.tenant == x.tenant) && (y.id == x.id) && (y.version + 1 == x.version)) more.forms) _ _ (any_forms (λ y. (y.tenant == x.tenant) && (y.id == x.id) && (y.version + 1 == x.version))) e

  form_new : (c : ContextItem) → has_form more c ≡ true → has_form all c ≡ true
  form_new c is = from_first _ (has_form before c) _ (any_forms (λ x. (x.tenant == c.tenant) && (x.id == c.form))) is

  form_before : (c : ContextItem) → has_form before c ≡ true → has_form all c ≡ true
  form_before c is = from_second (has_form more c) _ _ (any_forms (λ x. (x.tenant == c.tenant) && (x.id == c.form))) is

  readers_new : (c : ContextItem) → has_readers more c ≡ true → has_readers all c ≡ true
  readers_new c is = all_pass (is_reader_in more.users c.tenant) (is_reader_in all.users c.tenant) (λ u one. from_first _ (is_reader_in before.users c.tenant u) _ (any_users (λ x. is_that c.tenant u x && reads x)) one) c.recipients is

  readers_before : (c : ContextItem) → has_readers before c ≡ true → has_readers all c ≡ true
  readers_before c is = all_pass (is_reader_in before.users c.tenant) (is_reader_in all.users c.tenant) (λ u one. from_second (is_reader_in more.users c.tenant u) _ _ (any_users (λ x. is_that c.tenant u x && reads x)) one) c.recipients is

  users_apart : are_apart same_users all.users ≡ true
  users_apart = apart_ascending key_total (key of_user user_id) all.users (ascending_puts key_total (key of_user user_id) more.users before.users (ascending of_user user_id before.users up.user_ids))

  owned_all : are_owned all ≡ true
  owned_all =
      let two = and_parts (list_all (λ x. has_tenant before x.tenant) before.users && list_all (λ x. has_tenant before x.tenant) before.forms) (list_all (λ x. has_tenant before x.tenant) before.contexts) up.owned in
      let one = and_parts (list_all (λ x. has_tenant before x.tenant) before.users) (list_all (λ x. has_tenant before x.tenant) before.forms) two.0 in
      let users = all_users (λ x. has_tenant all x.tenant) (all_pass (λ x. has_tenant more x.tenant) (λ x. has_tenant all x.tenant) (λ x is. tenant_new x.tenant is) more.users may.of_users) (all_pass (λ x. has_tenant before x.tenant) (λ x. has_tenant all x.tenant) (λ x is. tenant_before x.tenant is) before.users one.0) in
      let forms = all_forms (λ x. has_tenant all x.tenant) (all_pass (λ x. has_tenant more x.tenant) (λ x. has_tenant all x.tenant) (λ x is. tenant_new x.tenant is) more.forms may.of_forms) (all_pass (λ x. has_tenant before x.tenant) (λ x. has_tenant all x.tenant) (λ x is. tenant_before x.tenant is) before.forms one.1) in
      let contexts = all_contexts (λ x. has_tenant all x.tenant) (all_pass (λ x. has_tenant more x.tenant) (λ x. has_tenant all x.tenant) (λ x is. tenant_new x.tenant is) more.contexts may.of_contexts) (all_pass (λ x. has_tenant before x.tenant) (λ x. has_tenant all x.tenant) (λ x is. tenant_before x.tenant is) before.contexts two.1) in
      and_from (list_all (λ x. has_tenant all x.tenant) all.users && list_all (λ x. has_tenant all x.tenant) all.forms) (list_all (λ x. has_tenant all x.tenant) all.contexts) (and_from (list_all (λ x. has_tenant all x.tenant) all.users) (list_all (λ x. has_tenant all x.tenant) all.forms) users forms) contexts

  pub joined_set_up : AreSetUp all
  joined_set_up = record {
    tenants = all_puts nat_cmp_total tenant_key is_tenant_item more.tenants before.tenants may.tenants up.tenants;
    users = all_users is_user_item may.users up.users;
    forms = all_forms is_form_item may.forms up.forms;
    contexts = all_contexts is_context_item may.contexts up.contexts;
    order = ids_ascend (tenant_ids all) (ascending_puts nat_cmp_total tenant_key more.tenants before.tenants (ids_sorted (tenant_ids before) up.order));
    user_ids = ordered of_user user_id all.users (ascending_puts key_total (key of_user user_id) more.users before.users (ascending of_user user_id before.users up.user_ids));
    user_names = apart_puts key_total (key of_user user_id) same_user_name names_back more.users before.users may.new_users may.new_names up.user_names;
    versions = ordered of_form form_key all.forms (ascending_puts key_total (key of_form form_key) more.forms before.forms (ascending of_form form_key before.forms up.versions));
    context_ids = ordered of_context context_id all.contexts (ascending_puts key_total (key of_context context_id) more.contexts before.contexts (ascending of_context context_id before.contexts up.context_ids));
    owned = owned_all;
    gapless = all_forms (follows all) (all_pass (follows more) (follows all) follows_new more.forms may.gapless) (all_pass (follows before) (follows all) follows_before before.forms up.gapless);
    asked = all_contexts (has_form all) (all_pass (has_form more) (has_form all) form_new more.contexts may.asked) (all_pass (has_form before) (has_form all) form_before before.contexts up.asked);
    recipients = all_pass (has_readers all) (has_recipients all) (λ c is. recipients_there all c users_apart is) all.contexts
        (all_contexts (has_readers all) (all_pass (has_readers more) (has_readers all) readers_new more.contexts may.recipients) (all_pass (has_recipients before) (has_readers all) (λ c is. readers_before c (readers_there before c is)) before.contexts up.recipients));
  }
