-- The lists that a setup gives keep the rules that an opening asks for.
use Rattle.std.proofs.Common.{◌≡◌, ℕ, ◌==◌, ◌&&◌, nat_le, Bool, true, false, List, [], ◌∷◌, map, flat_map, fold, Option, Some, None, IfSome, Result, Ok, refl, sym, ap, ◌∙◌, subst, eq-eqb, eqb-true}
use Rattle.std.proofs.lemmas.Bool.{and_parts, and_from, or_left}
use Rattle.std.proofs.lemmas.List.Folds.{fold-map}
use Rattle.std.proofs.lemmas.List.Sums.{fold-append}
use Rattle.std.specs.Cmp.{nat_cmp_total, unsigned_ties}
use Rattle.std.specs.List.{list_any, list_all, AllByRecursion}
use Rattle.toml.specs.Data.{Data}
use Rattle.wb_base.specs.AnswerList.{is_text}
use Rattle.wb_model.specs.declared.registry.ContextItem.{ContextItem}
use Rattle.wb_model.specs.declared.registry.FormItem.{FormItem}
use Rattle.wb_model.specs.declared.registry.Lists.{Lists}
use Rattle.wb_model.specs.declared.registry.TenantItem.{TenantItem}
use Rattle.wb_model.specs.declared.registry.UserItem.{UserItem}
use Rattle.wb_model.specs.Fits.{are_distinct}
use Rattle.wb_model.specs.Settings.{form_key}
use Rattle.wb_model.specs.Readable.{are_bytes, are_stored, is_stored_tenant}
use Rattle.wb_model.proofs.SettingsRight.{digest_right}
use Rattle.wb_model.specs.SetUps.{is_tenant_item, is_user_item, is_form_item, is_context_item, are_apart, has_tenant, has_form, follows, same_user_name, AreSetUp}
use Rattle.wb_setup.specs.declared.given.GivenContext.{GivenContext}
use Rattle.wb_setup.specs.declared.given.GivenTenant.{GivenTenant}
use Rattle.wb_setup.specs.declared.given.GivenUser.{GivenUser}
use Rattle.wb_setup.specs.declared.setup.SetupFault.{SetupFault}
use Rattle.wb_setup.specs.Given.{tenants_of}
use Rattle.wb_setup.specs.Joined.{lists_with}
use Rattle.wb_setup.specs.Keys.{tenant_key}
use Rattle.wb_setup.specs.Rules.{same_tenant, same_user, same_name, same_form, same_context, is_reader, has_form as gives_form, has_reader, fits_readers, rule_2, rule_3, rule_4, rule_5, rule_7, rule_8, rule_9, forms_of}
use Rattle.wb_setup.specs.Setups.{tenant_item, user_item, context_item, put_users, put_contexts, lists_of, kept, with_forms, with_tenants, with_document, setup}
use Rattle.wb_setup.specs.TomlValues.{document}
use Rattle.wb_setup.proofs.GivenForms.{AreFirst, given_forms, given_mine, all_first, firsts_right, firsts_numbered, firsts_have, firsts_apart}
use Rattle.wb_setup.proofs.GivenRanges.{IsGiven, tenants_given}
use Rattle.wb_setup.proofs.Groups.{all_by, all_with, all_so, all_pass, all_passed, any_passed, IsOneOf, each_one, apart_map, apart_all, all_flat, any_flat, same_ids, own_keys, are_of, eq_back}
use Rattle.wb_setup.proofs.Joining.{of_user, user_id, of_form, of_context, context_id, same_tenants, same_users, same_versions, same_contexts, is_that, reads, is_reader_in, has_readers, MayAdd, joined_set_up}
use Rattle.wb_setup.proofs.Orders.{key, key_total}
use Rattle.wb_setup.proofs.Puts.{adds_first, put, all_puts}

-- ---- a tenant's things, and all tenants'

abbrev users_of : GivenTenant → List UserItem
users_of t = map (user_item t) t.users

abbrev contexts_of : GivenTenant → List ContextItem
contexts_of t = map (context_item t) t.contexts

abbrev nothing : Lists
nothing = record { tenants = []; users = []; forms = []; contexts = [] }

abbrev given_lists : List GivenTenant → Lists
given_lists ts = record { tenants = map tenant_item ts; users = flat_map users_of ts; forms = flat_map given_forms ts; contexts = flat_map contexts_of ts }

users_mine : (t : GivenTenant) (us : List GivenUser) → are_of of_user t.id (map (user_item t) us) ≡ true
users_mine t [] = refl
users_mine t (u ∷ us) = and_from (t.id == t.id) (are_of of_user t.id (map (user_item t) us)) (eq-eqb t.id t.id refl) (users_mine t us)

contexts_mine : (t : GivenTenant) (cs : List GivenContext) → are_of of_context t.id (map (context_item t) cs) ≡ true
contexts_mine t [] = refl
contexts_mine t (c ∷ cs) = and_from (t.id == t.id) (are_of of_context t.id (map (context_item t) cs)) (eq-eqb t.id t.id refl) (contexts_mine t cs)

-- ---- each put at its place is all of them put at their places

placed_users : (ts : List GivenTenant) (before : List UserItem) → fold put_users before ts ≡ fold (put key_total (key of_user user_id)) before (flat_map users_of ts)
placed_users [] before = refl
placed_users (t ∷ ts) before =
    placed_users ts (put_users before t)
    ∙ (ap (λ xs. fold (put key_total (key of_user user_id)) xs (flat_map users_of ts)) (sym (fold-map (put key_total (key of_user user_id)) (user_item t) before t.users))
    ∙ sym (fold-append (put key_total (key of_user user_id)) before (users_of t) (flat_map users_of ts)))

placed_contexts : (ts : List GivenTenant) (before : List ContextItem) → fold put_contexts before ts ≡ fold (put key_total (key of_context context_id)) before (flat_map contexts_of ts)
placed_contexts [] before = refl
placed_contexts (t ∷ ts) before =
    placed_contexts ts (put_contexts before t)
    ∙ (ap (λ xs. fold (put key_total (key of_context context_id)) xs (flat_map contexts_of ts)) (sym (fold-map (put key_total (key of_context context_id)) (context_item t) before t.contexts))
    ∙ sym (fold-append (put key_total (key of_context context_id)) before (contexts_of t) (flat_map contexts_of ts)))

placed : (ts : List GivenTenant) (forms : List FormItem) → forms ≡ flat_map given_forms ts → lists_with nothing (given_lists ts) ≡ lists_of ts forms
placed ts forms is =
    ap (λ xs. record (lists_with nothing (given_lists ts)) { tenants = xs }) (fold-map (put nat_cmp_total tenant_key) tenant_item [] ts)
    ∙ (ap (λ xs. record (lists_with nothing (given_lists ts)) { tenants = (lists_of ts forms).tenants; users = xs }) (sym (placed_users ts []))
    ∙ (ap (λ xs. record (lists_of ts forms) { forms = xs; contexts = (lists_with nothing (given_lists ts)).contexts }) (ap (λ xs. fold (put key_total (key of_form form_key)) [] xs) (sym is))
    ∙ ap (λ xs. record (lists_of ts forms) { contexts = xs }) (sym (placed_contexts ts []))))

-- ---- what is known of each tenant

-- in its ranges, one of them, with its forms read, each context's form there and its recipients there
record Stands (ts : List GivenTenant) (t : GivenTenant) : Type 0 where
  given : IsGiven t
  one : IsOneOf ts t
  firsts : AreFirst t.id t.forms (given_forms t)
  forms : list_all (gives_form t) t.contexts ≡ true
  readers : list_all (fits_readers t) t.contexts ≡ true

all_stand : (ts ss : List GivenTenant) → AllByRecursion IsGiven ss → AllByRecursion (IsOneOf ts) ss → AllByRecursion (λ t. AreFirst t.id t.forms (given_forms t)) ss
    → list_all (λ t. list_all (gives_form t) t.contexts) ss ≡ true → list_all (λ t. list_all (fits_readers t) t.contexts) ss ≡ true → AllByRecursion (Stands ts) ss
all_stand ts [] given one firsts forms readers = tt
all_stand ts (s ∷ ss) given one firsts forms readers =
    let f = and_parts (list_all (gives_form s) s.contexts) (list_all (λ t. list_all (gives_form t) t.contexts) ss) forms in
    let r = and_parts (list_all (fits_readers s) s.contexts) (list_all (λ t. list_all (fits_readers t) t.contexts) ss) readers in
    (record { given = given.0; one = one.0; firsts = firsts.0; forms = f.0; readers = r.0 }, all_stand ts ss given.1 one.1 firsts.1 f.1 r.1)

module _ (ts : List GivenTenant) where
  abbrev more : Lists
  more = given_lists ts

  tenant_there : (t : GivenTenant) → IsOneOf ts t → has_tenant more t.id ≡ true
  tenant_there t one = any_passed tenant_item (λ (s : GivenTenant). s.id == t.id) (λ (x : TenantItem). x.tenant == t.id) (λ s is. is) ts (one (λ s. s.id == t.id) (eq-eqb t.id t.id refl))

  owned : {T : Type 0} (tenant : T → ℕ) (t : GivenTenant) → IsOneOf ts t → (xs : List T) → are_of tenant t.id xs ≡ true → list_all (λ x. has_tenant more (tenant x)) xs ≡ true
  owned tenant t one xs mine = all_pass (λ x. tenant x == t.id) (λ x. has_tenant more (tenant x)) (λ x is. ap (has_tenant more) (eqb-true (tenant x) t.id is) ∙ tenant_there t one) xs mine

  form_there : (t : GivenTenant) → Stands ts t → (c : GivenContext) → gives_form t c ≡ true → has_form more (context_item t c) ≡ true
  form_there t stands c gives =
      let P = λ (x : FormItem). (x.tenant == t.id) && (x.id == c.form) in
      any_flat given_forms P ts (stands.one (λ s. list_any P (given_forms s)) (firsts_have t.id c.form t.forms (given_forms t) stands.firsts gives))

  reader_there : (t : GivenTenant) → IsOneOf ts t → (u : ℕ) → has_reader t u ≡ true → is_reader_in more.users t.id u ≡ true
  reader_there t one u has =
      let P = λ (x : UserItem). is_that t.id u x && reads x in
      any_flat users_of P ts (one (λ s. list_any P (users_of s)) (any_passed (user_item t) (is_reader u) P (λ x is. (let parts = and_parts (x.id == u) (reads (user_item t x)) is in and_from (is_that t.id u (user_item t x)) (reads (user_item t x)) (and_from (t.id == t.id) (x.id == u) (eq-eqb t.id t.id refl) parts.0) parts.1)) t.users has))

  readers_there : (t : GivenTenant) → IsOneOf ts t → (c : GivenContext) → fits_readers t c ≡ true → has_readers more (context_item t c) ≡ true
  readers_there t one c fits =
      let all = all_pass (has_reader t) (is_reader_in more.users t.id) (reader_there t one) c.recipients (and_parts (are_distinct c.recipients) (list_all (has_reader t) c.recipients) fits).1 in
      all_puts nat_cmp_total (λ (n : ℕ). n) (is_reader_in more.users t.id) c.recipients [] all refl

  all_users : (P : UserItem → Bool) → ((t : GivenTenant) → Stands ts t → list_all P (users_of t) ≡ true) → AllByRecursion (Stands ts) ts → list_all P more.users ≡ true
  all_users P h all = all_flat users_of P ts (all_so (Stands ts) (λ t. list_all P (users_of t)) h ts all)

  all_forms : (P : FormItem → Bool) → ((t : GivenTenant) → Stands ts t → list_all P (given_forms t) ≡ true) → AllByRecursion (Stands ts) ts → list_all P more.forms ≡ true
  all_forms P h all = all_flat given_forms P ts (all_so (Stands ts) (λ t. list_all P (given_forms t)) h ts all)

  all_contexts : (P : ContextItem → Bool) → ((t : GivenTenant) → Stands ts t → list_all P (contexts_of t) ≡ true) → AllByRecursion (Stands ts) ts → list_all P more.contexts ≡ true
  all_contexts P h all = all_flat contexts_of P ts (all_so (Stands ts) (λ t. list_all P (contexts_of t)) h ts all)

  tenants_apart : rule_2 ts ≡ true → are_apart same_tenants (map tenant_item ts) ≡ true
  tenants_apart ids = apart_map tenant_item same_tenant same_tenants (λ s t. sym (unsigned_ties t.id s.id) ∙ eq_back t.id s.id) ts ids

  users_apart : rule_2 ts ≡ true → rule_3 ts ≡ true → are_apart same_users more.users ≡ true
  users_apart ids each = apart_all of_user users_of (λ t. users_mine t t.users) same_users (own_keys of_user user_id) ts ids
      (all_pass (λ t. are_apart same_user t.users) (λ t. are_apart same_users (users_of t)) (λ t is. apart_map (user_item t) same_user same_users (λ u v. same_ids of_user user_id (user_item t u) (user_item t v) (eq-eqb t.id t.id refl)) t.users is) ts each)

  names_apart : rule_2 ts ≡ true → rule_4 ts ≡ true → are_apart same_user_name more.users ≡ true
  names_apart ids each = apart_all of_user users_of (λ t. users_mine t t.users) same_user_name (λ x y off. ap (λ b. b && is_text x.name y.name) off) ts ids
      (all_pass (λ t. are_apart same_name t.users) (λ t. are_apart same_user_name (users_of t)) (λ t is. apart_map (user_item t) same_name same_user_name (λ u v. ap (λ b. b && is_text u.name v.name) (eq-eqb t.id t.id refl)) t.users is) ts each)

  contexts_apart : rule_2 ts ≡ true → rule_7 ts ≡ true → are_apart same_contexts more.contexts ≡ true
  contexts_apart ids each = apart_all of_context contexts_of (λ t. contexts_mine t t.contexts) same_contexts (own_keys of_context context_id) ts ids
      (all_pass (λ t. are_apart same_context t.contexts) (λ t. are_apart same_contexts (contexts_of t)) (λ t is. apart_map (context_item t) same_context same_contexts (λ c d. same_ids of_context context_id (context_item t c) (context_item t d) (eq-eqb t.id t.id refl)) t.contexts is) ts each)

  versions_apart : rule_2 ts ≡ true → rule_5 ts ≡ true → AllByRecursion (λ t. AreFirst t.id t.forms (given_forms t)) ts → are_apart same_versions more.forms ≡ true
  versions_apart ids each firsts = apart_all of_form given_forms given_mine same_versions (own_keys of_form form_key) ts ids
      (all_so (λ t. AreFirst t.id t.forms (given_forms t) × (are_apart same_form t.forms ≡ true)) (λ t. are_apart same_versions (given_forms t)) (λ t is. firsts_apart t.id t.forms (given_forms t) is.0 is.1) ts
      (all_with (λ t. AreFirst t.id t.forms (given_forms t)) (λ t. are_apart same_form t.forms ≡ true) ts firsts (all_by (λ t. are_apart same_form t.forms) ts each)))

  given_may : AllByRecursion IsGiven ts → AllByRecursion (λ t. AreFirst t.id t.forms (given_forms t)) ts
      → rule_2 ts ≡ true → rule_3 ts ≡ true → rule_4 ts ≡ true → rule_5 ts ≡ true → rule_7 ts ≡ true → rule_8 ts ≡ true → rule_9 ts ≡ true → MayAdd nothing more
  given_may given firsts r2 r3 r4 r5 r7 r8 r9 =
      let all = all_stand ts ts given (each_one ts) firsts r8 r9 in
      record {
        tenants = all_passed tenant_item (λ t. is_tenant_item (tenant_item t)) is_tenant_item (λ t is. is) ts (all_so IsGiven (λ t. is_tenant_item (tenant_item t)) (λ t is. is.item) ts given);
        users = all_users is_user_item (λ t is. all_passed (user_item t) (λ u. is_user_item (user_item t u)) is_user_item (λ u good. good) t.users is.given.users) all;
        forms = all_forms is_form_item (λ t is. firsts_right t.id t.forms (given_forms t) is.firsts is.given.forms) all;
        contexts = all_contexts is_context_item (λ t is. all_passed (context_item t) (λ c. is_context_item (context_item t c)) is_context_item (λ c good. good) t.contexts is.given.contexts) all;
        new_tenants = adds_first same_tenants more.tenants (tenants_apart r2);
        new_users = adds_first same_users more.users (users_apart r2 r3);
        new_names = adds_first same_user_name more.users (names_apart r2 r4);
        new_versions = adds_first same_versions more.forms (versions_apart r2 r5 firsts);
        new_contexts = adds_first same_contexts more.contexts (contexts_apart r2 r7);
        of_users = all_users (λ x. has_tenant more x.tenant) (λ t is. owned of_user t is.one (users_of t) (users_mine t t.users)) all;
        of_forms = all_forms (λ x. has_tenant more x.tenant) (λ t is. owned of_form t is.one (given_forms t) (given_mine t)) all;
        of_contexts = all_contexts (λ x. has_tenant more x.tenant) (λ t is. owned of_context t is.one (contexts_of t) (contexts_mine t t.contexts)) all;
        gapless = all_forms (follows more) (λ t is. all_pass (λ (x : FormItem). x.version == 1) (follows more) (λ x first. or_left (nat_le x.version 1) _ (ap (λ v. nat_le v 1) (eqb-true x.version 1 first))) (given_forms t) (firsts_numbered t.id t.forms (given_forms t) is.firsts)) all;
        asked = all_contexts (has_form more) (λ t is. all_passed (context_item t) (gives_form t) (has_form more) (form_there t is) t.contexts is.forms) all;
        recipients = all_contexts (has_readers more) (λ t is. all_passed (context_item t) (fits_readers t) (has_readers more) (readers_there t is.one) t.contexts is.readers) all;
      }

-- ---- the whole

nothing_set_up : AreSetUp nothing
nothing_set_up = record {
  tenants = refl;
  users = refl;
  forms = refl;
  contexts = refl;
  order = refl;
  user_ids = refl;
  user_names = refl;
  versions = refl;
  context_ids = refl;
  owned = refl;
  gapless = refl;
  asked = refl;
  recipients = refl;
}

-- salts and digests are of their lengths, and holidays are dates
abbrev has_long_secret : UserItem → Bool
has_long_secret x = are_bytes 32 x.secret.0

users_long : (t : GivenTenant) (us : List GivenUser) → list_all has_long_secret (map (user_item t) us) ≡ true
users_long t [] = refl
users_long t (u ∷ us) = and_from _ _ (digest_right t.salt u.password) (users_long t us)

all_users_long : (ts : List GivenTenant) → list_all (λ t. list_all has_long_secret (users_of t)) ts ≡ true
all_users_long [] = refl
all_users_long (t ∷ ts) = and_from _ _ (users_long t t.users) (all_users_long ts)

given_stored : (ts : List GivenTenant) → AllByRecursion IsGiven ts → are_stored (lists_with nothing (given_lists ts)) ≡ true
given_stored ts given = and_from _ _
    (all_puts nat_cmp_total tenant_key is_stored_tenant (map tenant_item ts) [] (all_passed tenant_item (λ t. is_stored_tenant (tenant_item t)) is_stored_tenant (λ t is. is) ts (all_so IsGiven (λ t. is_stored_tenant (tenant_item t)) (λ t is. is.stored) ts given)) refl)
    (all_puts key_total (key of_user user_id) has_long_secret (flat_map users_of ts) [] (all_flat users_of has_long_secret ts (all_users_long ts)) refl)

abbrev IsStoredSetUp : Lists → Type 0
IsStoredSetUp lists = AreSetUp lists × (are_stored lists ≡ true)

-- a rule that is kept where there are lists
held : (rule : ℕ) (b : Bool) (rest : Result Lists SetupFault) (lists : Lists) → kept rule b rest ≡ Ok lists → (b ≡ true) × (rest ≡ Ok lists)
held rule true rest lists e = (refl, e)
held rule false rest lists e = absurd cc

by_forms : (ts : List GivenTenant) (lists : Lists) → AllByRecursion IsGiven ts → rule_2 ts ≡ true → rule_3 ts ≡ true → rule_4 ts ≡ true → rule_5 ts ≡ true
    → (o : Option (List FormItem)) → forms_of ts ≡ o → with_forms ts o ≡ Ok lists → IsStoredSetUp lists
by_forms ts lists given r2 r3 r4 r5 None is e = absurd cc
by_forms ts lists given r2 r3 r4 r5 (Some forms) is e =
    let r7 = held 7 (rule_7 ts) (kept 8 (rule_8 ts) (kept 9 (rule_9 ts) (Ok (lists_of ts forms)))) lists e in
    let r8 = held 8 (rule_8 ts) (kept 9 (rule_9 ts) (Ok (lists_of ts forms))) lists r7.1 in
    let r9 = held 9 (rule_9 ts) (Ok (lists_of ts forms)) lists r8.1 in
    let same : lists_of ts forms ≡ lists = (let s : Ok (lists_of ts forms) ≡ Ok lists = r9.1 in cc) in
    let firsts = all_first ts forms is in
    subst IsStoredSetUp (placed ts forms firsts.0 ∙ same) (joined_set_up nothing (given_lists ts) nothing_set_up (given_may ts given firsts.1 r2 r3 r4 r5 r7.0 r8.0 r9.0), given_stored ts given)

by_tenants : (o : Option (List GivenTenant)) (lists : Lists) → IfSome o (AllByRecursion IsGiven) → with_tenants o ≡ Ok lists → IsStoredSetUp lists
by_tenants None lists given e = absurd cc
by_tenants (Some ts) lists given e =
    let rest5 = with_forms ts (forms_of ts) in
    let r2 = held 2 (rule_2 ts) (kept 3 (rule_3 ts) (kept 4 (rule_4 ts) (kept 5 (rule_5 ts) rest5))) lists e in
    let r3 = held 3 (rule_3 ts) (kept 4 (rule_4 ts) (kept 5 (rule_5 ts) rest5)) lists r2.1 in
    let r4 = held 4 (rule_4 ts) (kept 5 (rule_5 ts) rest5) lists r3.1 in
    let r5 = held 5 (rule_5 ts) rest5 lists r4.1 in
    by_forms ts lists given r2.0 r3.0 r4.0 r5.0 (forms_of ts) refl r5.1

by_document : (o : Option Data) (lists : Lists) → with_document o ≡ Ok lists → IsStoredSetUp lists
by_document None lists e = absurd cc
by_document (Some d) lists e = by_tenants (tenants_of d) lists (tenants_given d) e

-- the lists of a setup are set up
pub setup_is_set_up : (bytes : List ℕ) (lists : Lists) → setup bytes ≡ Ok lists → AreSetUp lists
setup_is_set_up bytes lists e = (by_document (document bytes) lists e).0

-- with salts and digests of their lengths, and holidays that are dates
pub setup_is_stored : (bytes : List ℕ) (lists : Lists) → setup bytes ≡ Ok lists → are_stored lists ≡ true
setup_is_stored bytes lists e = (by_document (document bytes) lists e).1
