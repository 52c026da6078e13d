-- What the rules of a setup, and those of kept rows, let through is such that its rows are read back.
use Rattle.std.proofs.Common.{◌≡◌, ℕ, ◌+◌, Bool, true, false, cond, not, List, [], ◌∷◌, Option, Some, refl, sym, ap, ◌∙◌, subst, arith}
use Rattle.std.specs.Prelude.{find, filter, unwrap_or, nat_le, ◌&&◌, ◌||◌, ◌==◌}
use Rattle.std.specs.List.{list_all, list_any}
use Rattle.std.specs.Option.{option_map_or}
use Rattle.std.proofs.lemmas.Bool.{and_parts, and_from, or_parts}
use Rattle.std.proofs.lemmas.Bool.Decides.{nat_tests}
use Rattle.wb_base.specs.AnswerList.{is_text}
use Rattle.wb_base.specs.declared.callers.Role.TheVariants.{Recipient}
use Rattle.wb_model.specs.declared.entry.Entry.{Entry}
use Rattle.wb_model.specs.declared.registry.ContextItem.{ContextItem}
use Rattle.wb_model.specs.declared.registry.FormItem.{FormItem}
use Rattle.wb_model.specs.declared.registry.Lists.{Lists}
use Rattle.wb_model.specs.declared.registry.TenantItem.{TenantItem}
use Rattle.wb_model.specs.declared.registry.UserItem.{UserItem}
use Rattle.wb_model.specs.Tables.{Case, same_role}
use Rattle.wb_model.specs.Settings.{is_recipient}
use Rattle.wb_model.specs.SetUps.{is_tenant_item, is_user_item, is_form_item, is_context_item, are_apart, same_user_name, has_tenant, has_form, is_recipient_of, has_recipients, follows, AreSetUp}
use Rattle.wb_model.specs.KeptRules.{is_named, has_public_answers, are_valid_after, AreKept}
use Rattle.wb_model.specs.Openings.{no_settings, registry_of, empty_tables}
use Rattle.wb_model.specs.Host.{Tables}
use Rattle.wb_model.specs.Readable.{are_bytes, are_stored, is_stored_tenant, is_count, is_own_settings, is_own_user, is_own_form, is_own_context, same_name, follows_in, has_id_of, IsOwn, is_stored, is_entry_of, are_sealed, is_readable, is_stored_case, AreReadable}
use Rattle.wb_model.proofs.Found.{Held, held_filter, find_passing}
use Rattle.wb_model.proofs.ItemPuts.{held_all, all_held}

-- ---- one tenant's part of the lists

any_filter : {X : Type 0} (p q r : X → Bool) → ((x : X) → q x ≡ true → (p x ≡ true) × (r x ≡ true)) → (xs : List X) → list_any q xs ≡ true → list_any r (filter p xs) ≡ true
any_filter p q r up [] e = absurd (grind (arith, e))
any_filter {X} p q r up (x ∷ xs) e = by (q x) refl e (any_filter p q r up xs)
  where
    skip : (b : Bool) → list_any r (filter p xs) ≡ true → list_any r (cond b (x ∷ filter p xs) (filter p xs)) ≡ true
    skip false k = k
    skip true k = either (r x) k
      where
        either : (d : Bool) → list_any r (filter p xs) ≡ true → (d || list_any r (filter p xs)) ≡ true
        either true f = refl
        either false f = f

    by : (b : Bool) → q x ≡ b → (b || list_any q xs) ≡ true → (list_any q xs ≡ true → list_any r (filter p xs) ≡ true) → list_any r (cond (p x) (x ∷ filter p xs) (filter p xs)) ≡ true
    by true is f ih = let k = up x is in ap (λ b. list_any r (cond b (x ∷ filter p xs) (filter p xs))) k.0 ∙ ap (λ b. b || list_any r (filter p xs)) k.1
    by false is f ih = skip (p x) (ih f)

settings_own : (t : ℕ) (xs : List TenantItem) → list_any (λ x. x.tenant == t) xs ≡ true → list_all is_tenant_item xs ≡ true → list_all is_stored_tenant xs ≡ true → is_own_settings t (unwrap_or (find (λ x. x.tenant == t) xs) (no_settings t)) ≡ true
settings_own t [] there all long = absurd (grind (arith, there))
settings_own t (x ∷ xs) there all long =
    by (x.tenant == t) refl there (λ more. settings_own t xs more (and_parts (is_tenant_item x) (list_all is_tenant_item xs) all).1 (and_parts (is_stored_tenant x) (list_all is_stored_tenant xs) long).1)
  where
    by : (b : Bool) → (x.tenant == t) ≡ b → (b || list_any (λ (y : TenantItem). y.tenant == t) xs) ≡ true → (list_any (λ (y : TenantItem). y.tenant == t) xs ≡ true → is_own_settings t (unwrap_or (find (λ (y : TenantItem). y.tenant == t) xs) (no_settings t)) ≡ true) →
        is_own_settings t (unwrap_or (cond b (Some x) (find (λ (y : TenantItem). y.tenant == t) xs)) (no_settings t)) ≡ true
    by true is f ih = and_from _ _ (and_from _ _ is (and_parts (is_tenant_item x) (list_all is_tenant_item xs) all).0) (and_parts (is_stored_tenant x) (list_all is_stored_tenant xs) long).0
    by false is f ih = ih f

abbrev of_tenant : ℕ → UserItem → Bool
of_tenant t x = x.tenant == t

none_named : (t : ℕ) (x : UserItem) → (x.tenant == t) ≡ true → (ys : List UserItem) → list_any (same_user_name x) ys ≡ false → list_any (same_name x) (filter (of_tenant t) ys) ≡ false
none_named t x here [] none = refl
none_named t x here (y ∷ ys) none =
    let parts = or_parts (same_user_name x y) (list_any (same_user_name x) ys) none in
    by (y.tenant == t) refl parts.0 (none_named t x here ys parts.1)
  where
    by : (b : Bool) → (y.tenant == t) ≡ b → same_user_name x y ≡ false → list_any (same_name x) (filter (of_tenant t) ys) ≡ false → list_any (same_name x) (cond b (y ∷ filter (of_tenant t) ys) (filter (of_tenant t) ys)) ≡ false
    by false is f ih = ih
    by true is f ih = let both : (x.tenant == y.tenant) ≡ true = grind (arith, nat_tests, here, is) in ap (λ b. b || list_any (same_name x) (filter (of_tenant t) ys)) (sym (ap (λ b. b && is_text x.name y.name) both) ∙ f) ∙ ih

names_own : (t : ℕ) (xs : List UserItem) → are_apart same_user_name xs ≡ true → are_apart same_name (filter (of_tenant t) xs) ≡ true
names_own t [] apart = refl
names_own t (x ∷ xs) apart =
    let parts = and_parts (not (list_any (same_user_name x) xs)) (are_apart same_user_name xs) apart in
    by (x.tenant == t) refl parts.0 (names_own t xs parts.1)
  where
    by : (b : Bool) → (x.tenant == t) ≡ b → not (list_any (same_user_name x) xs) ≡ true → are_apart same_name (filter (of_tenant t) xs) ≡ true → are_apart same_name (cond b (x ∷ filter (of_tenant t) xs) (filter (of_tenant t) xs)) ≡ true
    by false is f ih = ih
    by true is f ih = and_from _ _ (ap not (none_named t x is xs (grind (arith, f)))) ih

pub registry_own : (lists : Lists) (t : ℕ) → AreSetUp lists → are_stored lists ≡ true → has_tenant lists t ≡ true → IsOwn t (registry_of lists t)
registry_own lists t up long there = record {
  settings = settings_own t lists.tenants there up.tenants lengths.0;
  users = all_held (is_own_user t) (filter (of_tenant t) lists.users) (λ x h. let k = held_filter (of_tenant t) lists.users x h in and_from _ _ (and_from _ _ k.1 (held_all is_user_item lists.users x up.users k.0)) (held_all (λ (y : UserItem). are_bytes 32 y.secret.0) lists.users x lengths.1 k.0));
  names = names_own t lists.users up.user_names;
  forms = all_held (is_own_form t) offered (λ x h. let k = held_filter (λ (y : FormItem). y.tenant == t) lists.forms x h in and_from _ _ k.1 (held_all is_form_item lists.forms x up.forms k.0));
  gapless = all_held (follows_in offered) offered (λ x h. let k = held_filter (λ (y : FormItem). y.tenant == t) lists.forms x h in followed x k.1 (held_all (follows lists) lists.forms x up.gapless k.0));
  contexts = all_held (is_own_context t (filter (of_tenant t) lists.users) offered) (filter (λ (y : ContextItem). y.tenant == t) lists.contexts) (λ c h. let k = held_filter (λ (y : ContextItem). y.tenant == t) lists.contexts c h in
      and_from _ _ (and_from _ _ (and_from _ _ k.1 (held_all is_context_item lists.contexts c up.contexts k.0)) (asked c k.1 (held_all (has_form lists) lists.contexts c up.asked k.0))) (received c k.1 (held_all (has_recipients lists) lists.contexts c up.recipients k.0)));
}
  where
    offered : List FormItem
    offered = filter (λ (y : FormItem). y.tenant == t) lists.forms

    lengths : (list_all is_stored_tenant lists.tenants ≡ true) × (list_all (λ (x : UserItem). are_bytes 32 x.secret.0) lists.users ≡ true)
    lengths = and_parts (list_all is_stored_tenant lists.tenants) (list_all (λ (x : UserItem). are_bytes 32 x.secret.0) lists.users) long

    followed : (x : FormItem) → (x.tenant == t) ≡ true → follows lists x ≡ true → follows_in (filter (λ (y : FormItem). y.tenant == t) lists.forms) x ≡ true
    followed x here is = by (nat_le x.version 1) is
      where
        by : (b : Bool) → (b || list_any (λ (y : FormItem). (y.tenant == x.tenant) && (y.id == x.id) && (y.version + 1 == x.version)) lists.forms) ≡ true → (b || list_any (λ (y : FormItem). (y.id == x.id) && (y.version + 1 == x.version)) (filter (λ (y : FormItem). y.tenant == t) lists.forms)) ≡ true
        by true f = refl
        by false f = any_filter (λ (y : FormItem). y.tenant == t) (λ (y : FormItem). (y.tenant == x.tenant) && (y.id == x.id) && (y.version + 1 == x.version)) (λ (y : FormItem). (y.id == x.id) && (y.version + 1 == x.version))
            (λ y e. let a = and_parts ((y.tenant == x.tenant) && (y.id == x.id)) (y.version + 1 == x.version) e in let b = and_parts (y.tenant == x.tenant) (y.id == x.id) a.0 in ((let k : (y.tenant == x.tenant) ≡ true = b.0 in let h : (x.tenant == t) ≡ true = here in grind (arith, nat_tests, k, h)), and_from _ _ b.1 a.1)) lists.forms f

    asked : (c : ContextItem) → (c.tenant == t) ≡ true → has_form lists c ≡ true → list_any (has_id_of c.form) (filter (λ (y : FormItem). y.tenant == t) lists.forms) ≡ true
    asked c here is = any_filter (λ (y : FormItem). y.tenant == t) (λ (y : FormItem). (y.tenant == c.tenant) && (y.id == c.form)) (has_id_of c.form)
        (λ y e. let a = and_parts (y.tenant == c.tenant) (y.id == c.form) e in ((let k : (y.tenant == c.tenant) ≡ true = a.0 in let h : (c.tenant == t) ≡ true = here in grind (arith, nat_tests, k, h)), a.1)) lists.forms is

    received : (c : ContextItem) → (c.tenant == t) ≡ true → has_recipients lists c ≡ true → list_all (is_recipient (filter (of_tenant t) lists.users)) c.recipients ≡ true
    received c here is =
        let same : c.tenant ≡ t = grind (arith, nat_tests, here) in
        all_held (is_recipient (filter (of_tenant t) lists.users)) c.recipients (λ u h.
        ap (λ (o : Option UserItem). option_map_or (λ (x : UserItem). same_role x.role Recipient) o false) (find_passing (λ (x : UserItem). x.id == u) (of_tenant t) lists.users)
        ∙ subst (λ v. is_recipient_of lists v u ≡ true) same (held_all (is_recipient_of lists c.tenant) c.recipients u is h))

-- ---- openings

pub set_up_readable : (lists : Lists) (t : ℕ) → AreSetUp lists → are_stored lists ≡ true → has_tenant lists t ≡ true → AreReadable t (empty_tables (registry_of lists t))
set_up_readable lists t up long there = record { registry = registry_own lists t up long there; last = grind (arith, nat_tests); cases = refl; sessions = refl }

pub kept_readable : (at : ℕ) (lists : Lists) (t : ℕ) (x : Tables) → AreKept at lists t x → are_stored lists ≡ true → has_tenant lists t ≡ true → is_count x.plain.numbering.last ≡ true → list_all (is_stored_case x.sealed) x.plain.cases ≡ true → AreReadable t x
kept_readable at lists t x kept long there last stored = record {
  registry = subst (IsOwn t) (sym kept.registry) (registry_own lists t kept.set_up long there);
  last = last;
  cases = all_held (is_readable x.plain.registry x.sealed) x.plain.cases (λ c h. one c h);
  sessions = ap (list_all _) kept.sessions;
}
  where
    one : (c : Case) → Held c x.plain.cases → is_readable x.plain.registry x.sealed c ≡ true
    one c h =
        let parts = and_parts (list_all (λ (e : Entry). is_stored e.deed) c.trail) (are_sealed (x.sealed c.number)) (held_all (is_stored_case x.sealed) x.plain.cases c stored h) in
        let named = held_all (λ (d : Case). list_all (is_named x.plain.registry) d.trail) x.plain.cases c kept.named h in
        and_from _ _ (and_from _ _ (and_from _ _
        (all_held (is_entry_of x.plain.registry) c.trail (λ e k. and_from _ _ (held_all (is_named x.plain.registry) c.trail e named k) (held_all (λ (d : Entry). is_stored d.deed) c.trail e parts.0 k)))
        (held_all (λ (d : Case). has_public_answers x.plain.registry.forms d.trail) x.plain.cases c kept.answers h))
        (held_all (λ (d : Case). are_valid_after x.plain.registry.forms d.trail (x.sealed d.number)) x.plain.cases c kept.sealed h))
        parts.1
