-- What is found among items that all pass a test passes it; and a tenant's offset is in its range.
use Rattle.std.proofs.Common.{◌≡◌, ℕ, Bool, true, false, cond, List, [], ◌∷◌, find, filter, Some, ℤ, pos, refl, subst, arith}
use Rattle.std.proofs.lemmas.Bool.{and_parts, and_from}
use Rattle.std.proofs.lemmas.Int.{ints}
use Rattle.std.specs.List.{list_all}
use Rattle.std.specs.Prelude.{◌==◌, ◌&&◌, ◌≤ℤ◌, nat_le, neg_ℤ, int_le}
use Rattle.wb_base.specs.Calendars.{are_holidays}
use Rattle.wb_base.specs.Days.{IsOffset}
use Rattle.wb_base.specs.FormFaults.{is_good}
use Rattle.wb_model.specs.declared.registry.FormItem.{FormItem}
use Rattle.wb_model.specs.declared.registry.Lists.{Lists}
use Rattle.wb_model.specs.declared.registry.TenantItem.{TenantItem}
use Rattle.wb_model.specs.Openings.{registry_of}
use Rattle.wb_tenants.specs.Sets.{is_version, version_of}
use Rattle.wb_model.specs.Fits.{is_between, has_bytes}
use Rattle.wb_model.specs.SetUps.{is_offset, is_tenant_item, is_form_item}

pub found-fits : {X : Type 0} (wanted test : X → Bool) (xs : List X) (x : X) → list_all test xs ≡ true → find wanted xs ≡ Some x → test x ≡ true
found-fits wanted test [] x all found = absurd (cc (found))
found-fits wanted test (y ∷ ys) x all found =
    let parts = and_parts (test y) (list_all test ys) all in
    by (wanted y) found parts.0 (λ more. found-fits wanted test ys x parts.1 more)
  where
    by : (b : Bool) → cond b (Some y) (find wanted ys) ≡ Some x → test y ≡ true → (find wanted ys ≡ Some x → test x ≡ true) → test x ≡ true
    by true is own more = let same : y ≡ x = cc (is) in subst (λ z. test z ≡ true) same own
    by false is own more = more is

is_at_most : (a b : ℤ) → int_le a b ≡ true → a ≤ℤ b
is_at_most a b e = grind (arith, ints, e)

pub offset-fits : (x : TenantItem) → is_tenant_item x ≡ true → IsOffset x.offset
offset-fits x e =
    let listed = (and_parts (is_between 1 64 x.tenant && has_bytes 1 128 x.name && nat_le x.notice_days 30 && is_offset x.offset && is_between 1 100_000 x.quota) (are_holidays x.calendar.holidays) e).0 in
    let most = (and_parts (is_between 1 64 x.tenant && has_bytes 1 128 x.name && nat_le x.notice_days 30 && is_offset x.offset) (is_between 1 100_000 x.quota) listed).0 in
    let own = (and_parts (is_between 1 64 x.tenant && has_bytes 1 128 x.name && nat_le x.notice_days 30) (is_offset x.offset) most).1 in
    let parts = and_parts (int_le (neg_ℤ (pos 720)) x.offset) (int_le x.offset (pos 840)) own in
    (is_at_most (neg_ℤ (pos 720)) x.offset parts.0, is_at_most x.offset (pos 840) parts.1)

-- ---- forms

filtered-fit : {X : Type 0} (wanted test : X → Bool) (xs : List X) → list_all test xs ≡ true → list_all test (filter wanted xs) ≡ true
filtered-fit wanted test [] all = refl
filtered-fit wanted test (y ∷ ys) all =
    let parts = and_parts (test y) (list_all test ys) all in
    by (wanted y) parts.0 (filtered-fit wanted test ys parts.1)
  where
    by : (b : Bool) → test y ≡ true → list_all test (filter wanted ys) ≡ true → list_all test (cond b (y ∷ filter wanted ys) (filter wanted ys)) ≡ true
    by true own rest = and_from (test y) (list_all test (filter wanted ys)) own rest
    by false own rest = rest

-- a version of a form of a tenant is good
pub form-good : (lists : Lists) (t id version : ℕ) (x : FormItem) → list_all is_form_item lists.forms ≡ true → version_of id version (registry_of lists t).forms ≡ Some x → is_good x.form ≡ true
form-good lists t id version x all found =
    let fit = found-fits (is_version id version) is_form_item (registry_of lists t).forms x (filtered-fit (λ (y : FormItem). y.tenant == t) is_form_item lists.forms all) found in
    (and_parts (is_between 1 16 x.id && is_between 1 99 x.version) (is_good x.form) fit).1
