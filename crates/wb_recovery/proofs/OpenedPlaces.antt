-- The tenants of a host that is opened over what is held.
use Rattle.std.proofs.Common.{◌≡◌, ℕ, zero, suc, ◌<◌, ◌≤◌, Bool, true, false, cond, List, [], ◌∷◌, length, get_or, is_some, Some, refl, ap, arith, ℤ, eq-eqb}
use Rattle.std.specs.Prelude.{◌==◌, ◌&&◌, nat_lt, nat_le, int_le, neg_ℤ, pos, ◌≤ℤ◌, map, filter, find, unwrap_or}
use Rattle.std.specs.List.{list_all}
use Rattle.std.proofs.lemmas.Bool.{and_parts, and_from}
use Rattle.std.proofs.lemmas.Bool.Decides.{nat_tests}
use Rattle.std.proofs.lemmas.Int.{ints}
use Rattle.std.proofs.lemmas.List.Sums.{sum_by-cons}
use Rattle.wb_base.specs.Calendars.{are_holidays}
use Rattle.wb_base.specs.Days.{IsOffset}
use Rattle.wb_base.specs.FormFaults.{is_good}
use Rattle.wb_model.specs.declared.registry.FormItem.{FormItem}
use Rattle.wb_model.specs.declared.registry.Lists.{Lists}
use Rattle.wb_model.specs.declared.registry.TenantItem.{TenantItem}
use Rattle.wb_model.specs.Fits.{is_between, has_bytes}
use Rattle.wb_model.specs.Legal.{ascends, ascends_from}
use Rattle.wb_model.specs.Openings.{no_settings}
use Rattle.wb_model.specs.SetUps.{is_offset, is_tenant_item, is_form_item, AreSetUp}
use Rattle.wb_rows.specs.Held.{Held}
use Rattle.wb_tables.specs.Kept.{PlainTenancy, sessions_at}
use Rattle.wb_tables.specs.Places.{AreGoodForms}
use Rattle.wb_tenants.specs.Sets.{HasTenant, is_tenant}
use Rattle.wb_recovery.specs.HeldPlaces.{held_place, held_places}
use Rattle.wb_recovery.specs.SetUp.{AreSetUpRight}

at_most : (a b : ℕ) → nat_le a b ≡ true → a ≤ b
at_most a b e = grind (arith, nat_tests, e)

pub below : (a b : ℕ) → nat_lt a b ≡ true → a < b
below a b e = grind (arith, nat_tests, e)

at_most_int : (a b : ℤ) → int_le a b ≡ true → a ≤ℤ b
at_most_int a b e = grind (arith, ints, e)

-- the first and the fourth of six
outer_of : (a b c d e f : Bool) → (a && b && c && d && e && f) ≡ true → (a ≡ true) × (d ≡ true)
outer_of a b c d e f is = let four = and_parts (a && b && c) d (and_parts (a && b && c && d) e (and_parts (a && b && c && d && e) f is).0).0 in ((and_parts a b (and_parts (a && b) c four.0).0).0, four.1)

in_ranges : (x : TenantItem) → is_tenant_item x ≡ true → (is_between 1 64 x.tenant ≡ true) × (is_offset x.offset ≡ true)
in_ranges x e = outer_of (is_between 1 64 x.tenant) (has_bytes 1 128 x.name) (nat_le x.notice_days 30) (is_offset x.offset) (is_between 1 100_000 x.quota) (are_holidays x.calendar.holidays) e

id_in : (x : TenantItem) → is_tenant_item x ≡ true → (1 ≤ x.tenant) × (x.tenant ≤ 64)
id_in x e = let sides = and_parts (nat_le 1 x.tenant) (nat_le x.tenant 64) (in_ranges x e).0 in (at_most 1 x.tenant sides.0, at_most x.tenant 64 sides.1)

offset_in : (x : TenantItem) → is_tenant_item x ≡ true → IsOffset x.offset
offset_in x e =
    let sides = and_parts (int_le (neg_ℤ (pos 720)) x.offset) (int_le x.offset (pos 840)) (in_ranges x e).1 in
    (at_most_int (neg_ℤ (pos 720)) x.offset sides.0, at_most_int x.offset (pos 840) sides.1)

-- the ids of a setup's tenants ascend from 1 on
pub ids_from : (xs : List TenantItem) → list_all is_tenant_item xs ≡ true → ascends (map (λ x. x.tenant) xs) ≡ true → ascends_from 0 (map (λ x. x.tenant) xs) ≡ true
ids_from [] all up = refl
ids_from (x ∷ xs) all up =
    let low = (id_in x (and_parts (is_tenant_item x) (list_all is_tenant_item xs) all).0).0 in
    let above : nat_lt 0 x.tenant ≡ true = grind (arith, nat_tests, low) in
    and_from (nat_lt 0 x.tenant) (ascends_from x.tenant (map (λ y. y.tenant) xs)) above up

-- a tenant that is not there has no offset from UTC
found_offset : (t : ℕ) (xs : List TenantItem) → list_all is_tenant_item xs ≡ true → IsOffset (unwrap_or (find (λ (x : TenantItem). x.tenant == t) xs) (no_settings t)).offset
found_offset t [] all = (omega arith, omega arith)
found_offset t (x ∷ xs) all = by (x.tenant == t) (and_parts (is_tenant_item x) (list_all is_tenant_item xs) all) (λ rest. found_offset t xs rest)
  where
    by : (b : Bool) → (is_tenant_item x ≡ true) × (list_all is_tenant_item xs ≡ true) → (list_all is_tenant_item xs ≡ true → IsOffset (unwrap_or (find (λ (y : TenantItem). y.tenant == t) xs) (no_settings t)).offset)
        → IsOffset (unwrap_or (cond b (Some x) (find (λ (y : TenantItem). y.tenant == t) xs)) (no_settings t)).offset
    by true parts rest = offset_in x parts.0
    by false parts rest = rest parts.1

good_part : (p : FormItem → Bool) (xs : List FormItem) → list_all is_form_item xs ≡ true → AreGoodForms (filter p xs)
good_part p [] all = tt
good_part p (x ∷ xs) all = by (p x) (and_parts (is_form_item x) (list_all is_form_item xs) all) (λ rest. good_part p xs rest)
  where
    by : (b : Bool) → (is_form_item x ≡ true) × (list_all is_form_item xs ≡ true) → (list_all is_form_item xs ≡ true → AreGoodForms (filter p xs)) → AreGoodForms (cond b (x ∷ filter p xs) (filter p xs))
    by true parts rest = ((and_parts (is_between 1 16 x.id && is_between 1 99 x.version) (is_good x.form) parts.0).1, rest parts.1)
    by false parts rest = rest parts.1

right_from : (h : Held) → AreSetUp h.lists → (k : ℕ) (xs : List TenantItem) → list_all is_tenant_item xs ≡ true → ascends_from k (map (λ x. x.tenant) xs) ≡ true
    → AreSetUpRight k (map (held_place h) (map (λ x. x.tenant) xs))
right_from h up k [] all rise = tt
right_from h up k (x ∷ xs) all rise =
    let parts = and_parts (is_tenant_item x) (list_all is_tenant_item xs) all in
    let order = and_parts (nat_lt k x.tenant) (ascends_from x.tenant (map (λ y. y.tenant) xs)) rise in (
      (
        below k x.tenant order.0,
        record {
          id = (id_in x parts.0).1;
          offset = found_offset x.tenant h.lists.tenants up.tenants;
          forms = good_part (λ y. y.tenant == x.tenant) h.lists.forms up.forms;
        },
      ),
      right_from h up x.tenant xs parts.1 order.1,
    )

pub held_right : (h : Held) → AreSetUp h.lists → AreSetUpRight 0 (held_places h)
held_right h up = right_from h up 0 h.lists.tenants up.tenants (ids_from h.lists.tenants up.tenants up.order)

pub no_sessions : (h : Held) (ts : List ℕ) → sessions_at (map (held_place h) ts) ≡ 0
no_sessions h [] = refl
no_sessions h (t ∷ ts) =
    let rest = no_sessions h ts in
    let more = sum_by-cons (λ (x : PlainTenancy). length x.plain.sessions) (held_place h t) (map (held_place h) ts) in
    omega (arith, rest, more)

-- a tenant at a place is there
found_at : (i : ℕ) (x : TenantItem) (xs : List TenantItem) → i < length xs → get_or xs i x ≡ x → is_some (find (is_tenant x.tenant) xs) ≡ true
found_at i x [] within is = absurd (omega arith)
found_at zero x (y ∷ ys) within is =
    let here : (y.tenant == x.tenant) ≡ true = eq-eqb y.tenant x.tenant (ap (λ (z : TenantItem). z.tenant) is) in
    rw here refl
found_at (suc i) x (y ∷ ys) within is = by (y.tenant == x.tenant) (found_at i x ys (omega arith) is)
  where
    by : (b : Bool) → is_some (find (is_tenant x.tenant) ys) ≡ true → is_some (cond b (Some y) (find (is_tenant x.tenant) ys)) ≡ true
    by true rest = refl
    by false rest = rest

pub there_at : (lists : Lists) (i : ℕ) (x : TenantItem) → i < length lists.tenants → get_or lists.tenants i x ≡ x → HasTenant lists x.tenant
there_at lists i x within is = found_at i x lists.tenants within is
