-- What is owed of kept tables is in its ranges, so that its rows are read as notices.
use Rattle.std.proofs.Common.{◌≡◌, inl, inr, ℕ, ◌<◌, ◌≤◌, Bool, true, false, cond, not, List, [], ◌∷◌, map, filter, find, unwrap_or, Some, ℤ, pos, neg_ℤ, ◌≤ℤ◌, refl, sym, ap, ◌∙◌, arith}
use Rattle.std.proofs.lemmas.Bool.{and_from, and_parts, eqb-true, eq-eqb, le-leb}
use Rattle.std.proofs.lemmas.Int.{ints}
use Rattle.std.proofs.lemmas.List.Elements.{All-from_recursion, recursion_from_All}
use Rattle.std.specs.List.{AllByRecursion}
use Rattle.std.specs.Ordering.{match_ordering}
use Rattle.std.specs.Prelude.{◌==◌, ◌&&◌, ◌⊎◌, nat_le, int_le, All}
use Rattle.std.specs.declared.cmp.Ordering.TheVariants.{Less, Equal, Greater}
use Rattle.jiff_core.proofs.SignedLemmas.{signed_arith}
use Rattle.wb_base.specs.Days.{IsOffset, day_of}
use Rattle.wb_base.specs.declared.rows.Change.TheVariants.{Put}
use Rattle.wb_base.specs.declared.rows.Row.{Row}
use Rattle.wb_base.specs.KeptRows.{all_changed, key_cmp, key_of}
use Rattle.wb_list.specs.Keyed.{insert_item}
use Rattle.wb_model.specs.declared.registry.TenantItem.{TenantItem}
use Rattle.wb_model.specs.declared.registry.UserItem.{UserItem}
use Rattle.wb_model.specs.Fits.{has_bytes, is_between, is_staff_role}
use Rattle.wb_model.specs.KeptRules.{AreKept}
use Rattle.wb_model.specs.Opened.{Ascend}
use Rattle.wb_model.specs.Openings.{no_settings, registry_of}
use Rattle.wb_model.specs.SetUps.{is_tenant_item, is_user_item, is_offset, tenant_ids}
use Rattle.wb_base.specs.Calendars.{are_holidays}
use Rattle.wb_model.specs.Tables.{Case, is_live}
use Rattle.wb_model.proofs.Found.{Held, find_true, held_filter}
use Rattle.wb_model.proofs.OpeningsOf.{kept_opened}
use Rattle.wb_row_codec.specs.Good.{is_dated, is_tenant}
use Rattle.wb_rows.proofs.Fitting.{found-fits, offset-fits}
use Rattle.wb_rows.specs.Held.{Held as Tables}
use Rattle.wb_rows.specs.Openings.{cases_of, tables_of, time_of}
use Rattle.wb_notice.specs.declared.notice.Notice.{Notice}
use Rattle.wb_notice.specs.declared.notice.NoticeKind.{NoticeKind}
use Rattle.wb_notice.specs.declared.users.Addressee.{Addressee}
use Rattle.wb_notice.specs.Notices.{IsNotice, is_ranged, notice_row}
use Rattle.wb_notice.specs.Outbox.{box, is_of_live, new_notices, new_rows, stands}
use Rattle.wb_notice.specs.Owed.{addressee, addressees, arising, is_for, live, notices_of, notices_on, notices_to, owed, unsealed}
use Rattle.wb_notice.proofs.OwedOnes.{passes_here}
use Rattle.wb_notice.proofs.OwedOrder.{all_filtered, all_flat}

-- ---- parts

found_there : (xs : List TenantItem) (t : ℕ) → Held t (map (λ (x : TenantItem). x.tenant) xs) → (x : TenantItem) × (find (λ (y : TenantItem). y.tenant == t) xs ≡ Some x)
found_there [] t held = absurd held
found_there (x ∷ xs) t held = by (x.tenant == t) refl held (λ more. found_there xs t more)
  where
    by : (b : Bool) → (x.tenant == t) ≡ b → (t ≡ x.tenant) ⊎ Held t (map (λ (y : TenantItem). y.tenant) xs) → (Held t (map (λ (y : TenantItem). y.tenant) xs) → (y : TenantItem) × (find (λ (z : TenantItem). z.tenant == t) xs ≡ Some y)) → (y : TenantItem) × (cond b (Some x) (find (λ (z : TenantItem). z.tenant == t) xs) ≡ Some y)
    by true is h more = (x, refl)
    by false is (inl e) more = absurd (let yes = eq-eqb x.tenant t (sym e) in cc (is, yes))
    by false is (inr later) more = more later

dated : (now : ℕ) (offset : ℤ) → now ≤ 99_999_999_999 → IsOffset offset → is_dated (day_of now offset) ≡ true
dated now offset high h = and_from _ _ (is_at_most (neg_ℤ (pos 1)) (day_of now offset) (omega (arith, signed_arith))) (is_at_most (day_of now offset) (pos 1_179_732) (omega (arith, signed_arith)))
  where
    is_at_most : (a b : ℤ) → a ≤ℤ b → int_le a b ≡ true
    is_at_most a b le = grind (arith, ints, le)

tenant_fits : (x : TenantItem) → is_tenant_item x ≡ true → is_tenant x.tenant ≡ true
tenant_fits x e =
    let listed = (and_parts (is_between 1 64 x.tenant && has_bytes 1 128 x.name && nat_le x.notice_days 30 && is_offset x.offset && is_between 1 100_000 x.quota) (are_holidays x.calendar.holidays) e).0 in
    let most = (and_parts (is_between 1 64 x.tenant && has_bytes 1 128 x.name && nat_le x.notice_days 30 && is_offset x.offset) (is_between 1 100_000 x.quota) listed).0 in
    let more = (and_parts (is_between 1 64 x.tenant && has_bytes 1 128 x.name && nat_le x.notice_days 30) (is_offset x.offset) most).0 in
    let named = (and_parts (is_between 1 64 x.tenant && has_bytes 1 128 x.name) (nat_le x.notice_days 30) more).0 in
    (and_parts (is_between 1 64 x.tenant) (has_bytes 1 128 x.name) named).0

user_fits : (u : UserItem) → is_user_item u ≡ true → is_between 1 256 u.id ≡ true
user_fits u e =
    let most = (and_parts (is_between 1 256 u.id && has_bytes 1 64 u.name && is_staff_role u.role) (nat_le u.disabled 10_000) e).0 in
    let named = (and_parts (is_between 1 256 u.id && has_bytes 1 64 u.name) (is_staff_role u.role) most).0 in
    (and_parts (is_between 1 256 u.id) (has_bytes 1 64 u.name) named).0

above : (k : ℕ) (cs : List Case) (c : Case) → Ascend k cs → Held c cs → k < c.number
above k [] c up held = absurd held
above k (d ∷ cs) c up (inl is) = let lt = up.0 in let e = ap (λ (x : Case). x.number) is in omega (arith, lt, e)
above k (d ∷ cs) c up (inr held) = let lt = up.0 in let more = above d.number cs c up.1 held in omega (arith, lt, more)

held_in_map : {X Y : Type 0} (f : X → Y) (xs : List X) (y : Y) → Held y (map f xs) → (x : X) × Held x xs × (y ≡ f x)
held_in_map f [] y held = absurd held
held_in_map f (x ∷ xs) y (inl is) = (x, inl refl, is)
held_in_map f (x ∷ xs) y (inr held) = let more = held_in_map f xs y held in (more.0, inr more.1, more.2)

-- ---- what is owed

module _ (h : Tables) (now : ℕ) (kept : (t : ℕ) → AreKept (time_of h) h.lists t (tables_of h t)) (high : now ≤ 99_999_999_999) where
  tenant_ranged : (t : ℕ) → Held t (tenant_ids h.lists) → is_tenant t ≡ true
  tenant_ranged t there =
      let found = found_there h.lists.tenants t there in
      let own = eqb-true found.0.tenant t (find_true (λ (x : TenantItem). x.tenant == t) h.lists.tenants found.0 found.1) in
      ap is_tenant (sym own) ∙ tenant_fits found.0 (found-fits (λ (x : TenantItem). x.tenant == t) is_tenant_item h.lists.tenants found.0 (kept t).set_up.tenants found.1)

  day_ranged : (t : ℕ) → Held t (tenant_ids h.lists) → is_dated (day_of now (registry_of h.lists t).settings.offset) ≡ true
  day_ranged t there =
      let found = found_there h.lists.tenants t there in
      let fits = offset-fits found.0 (found-fits (λ (x : TenantItem). x.tenant == t) is_tenant_item h.lists.tenants found.0 (kept t).set_up.tenants found.1) in
      ap (λ o. is_dated (day_of now (unwrap_or o (no_settings t)).offset)) found.1 ∙ dated now found.0.offset high fits

  user_ranged : (t : ℕ) (a : Addressee) → Held a (addressees (registry_of h.lists t).users) → is_between 1 256 a.user ≡ true
  user_ranged t a held =
      let of = held_in_map addressee (filter (λ (u : UserItem). u.enabled) (registry_of h.lists t).users) a held in
      let own = (held_filter (λ (u : UserItem). u.enabled) (registry_of h.lists t).users of.0 of.1).0 in
      let all = (held_filter (λ (u : UserItem). u.tenant == t) h.lists.users of.0 own).0 in
      ap (λ (x : Addressee). is_between 1 256 x.user) of.2 ∙ user_fits of.0 (passes_here is_user_item h.lists.users of.0 (kept t).set_up.users all)

  number_ranged : (t : ℕ) (c : Case) → Held c (live (unsealed h) now t) → nat_le 1 c.number ≡ true
  number_ranged t c held =
      let up = (kept_opened (time_of h) h.lists t (tables_of h t) (kept t)).ascend in
      let lt = above 0 (cases_of h.reports t) c up (held_filter (is_live (registry_of h.lists t).settings now) (cases_of h.reports t) c held).0 in
      le-leb 1 c.number (omega (arith, lt))

  told_ranged : (t : ℕ) (today : ℤ) (c : Case) (a : Addressee) (ks : List NoticeKind) → is_tenant t ≡ true → nat_le 1 c.number ≡ true → is_between 1 256 a.user ≡ true → is_dated today ≡ true
      → AllByRecursion (λ (n : Notice). is_ranged n ≡ true) (map (λ kind. record { tenant = t; number = c.number; user = a.user; kind = kind; day = today }) ks)
  told_ranged t today c a [] tenant number user day = tt
  told_ranged t today c a (k ∷ ks) tenant number user day = (and_from _ _ (and_from _ _ (and_from _ _ tenant number) user) day, told_ranged t today c a ks tenant number user day)

  pub owed_ranged : AllByRecursion (λ (n : Notice). is_ranged n ≡ true) (owed (unsealed h) now)
  owed_ranged = all_flat (λ (n : Notice). is_ranged n ≡ true) (notices_of (unsealed h) now) (tenant_ids h.lists) (λ t there.
      let g = registry_of h.lists t in
      let today = day_of now g.settings.offset in
      all_flat (λ (n : Notice). is_ranged n ≡ true) (notices_on t g today) (live (unsealed h) now t) (λ c held.
      all_flat (λ (n : Notice). is_ranged n ≡ true) (notices_to t today (arising g.users today c.trail) c) (addressees g.users) (λ a to.
      told_ranged t today c a (filter (is_for c.trail a) (arising g.users today c.trail)) (tenant_ranged t there) (number_ranged t c held) (user_ranged t a to) (day_ranged t there))))

-- ---- rows that are put

all_inserted : (P : Row → Type 0) (rows : List Row) (r : Row) → AllByRecursion P rows → P r → AllByRecursion P (insert_item key_cmp key_of rows r)
all_inserted P [] r all own = (own, tt)
all_inserted P (y ∷ ys) r all own =
    let rest = all_inserted P ys r all.1 own in
    elim (key_cmp y.key r.key) as (λ o. AllByRecursion P (match_ordering o (y ∷ insert_item key_cmp key_of ys r) (r ∷ ys) (r ∷ y ∷ ys))) [
      | Less ↦ (all.0, rest)
      | Equal ↦ (own, all.1)
      | Greater ↦ (own, all)
    ]

all_put : (P : Row → Type 0) (rows rs : List Row) → AllByRecursion P rows → AllByRecursion P rs → AllByRecursion P (all_changed rows (map Put rs))
all_put P rows [] all own = all
all_put P rows (r ∷ rs) all own = all_put P (insert_item key_cmp key_of rows r) rs (all_inserted P rows r all own.0) own.1

rows_read : (ns : List Notice) → AllByRecursion (λ (n : Notice). is_ranged n ≡ true) ns → AllByRecursion IsNotice (map notice_row ns)
rows_read [] all = tt
rows_read (n ∷ ns) all = (record { notice = n; ranged = all.0; own = refl }, rows_read ns all.1)

pub box_read : (h : Tables) (now : ℕ) (rows : List Row) → ((t : ℕ) → AreKept (time_of h) h.lists t (tables_of h t)) → now ≤ 99_999_999_999 → All IsNotice rows → All IsNotice (box (unsealed h) now rows)
box_read h now rows kept high read =
    let x = unsealed h in
    All-from_recursion IsNotice (box x now rows)
    (all_put IsNotice (filter (is_of_live x now) rows) (new_rows x now rows)
    (all_filtered IsNotice (is_of_live x now) rows (recursion_from_All IsNotice rows read))
    (rows_read (new_notices x now rows) (all_filtered (λ (n : Notice). is_ranged n ≡ true) (λ (n : Notice). not (stands rows (notice_row n).key)) (owed x now) (owed_ranged h now kept high))))
