-- A tenant's settings in their ranges are read of the object that shows them, where what is as it is by default is left out.
use Rattle.std.proofs.Common.{◌≡◌, ℕ, ◌^◌, ◌++◌, Bool, true, false, List, [], ◌∷◌, Option, Some, ℤ, pos, negsuc, neg_ℤ, codes, refl, sym, ap, ◌∙◌, arith}
use Rattle.std.proofs.lemmas.Bool.{and_parts, eqb-true, leb-true, lt-ltb}
use Rattle.std.specs.Prelude.{◌==◌, ◌&&◌, not, nat_le, nat_lt, int_le, length, if◌then◌else◌, option_map, option_and_then}
use Rattle.hex.specs.Hex.{encode_lower}
use Rattle.serde_json.specs.Data.{Data, boolean, string, number, unsigned, negative}
use Rattle.serde_json.specs.Find.{of_integer}
use Rattle.wb_base.specs.Calendars.{Calendar, are_holidays}
use Rattle.wb_base.specs.FormShape.{keep, list_of as list_read}
use Rattle.wb_base.specs.declared.words.Salt.{Salt}
use Rattle.wb_model.specs.declared.registry.TenantItem.{TenantItem}
use Rattle.wb_model.specs.Bodies.{text, whole}
use Rattle.wb_model.specs.Fits.{is_between, has_bytes}
use Rattle.wb_model.specs.Json.{Member, object_of, date, list_of, whole as whole_data}
use Rattle.wb_model.specs.Readable.{are_bytes, are_dates}
use Rattle.wb_model.specs.Rows.{only_where, settings_data}
use Rattle.wb_model.specs.SetUps.{is_offset, is_tenant_item}
use Rattle.wb_json.specs.Dates.{date as date_read}
use Rattle.wb_row_codec.specs.Shapes as shapes
use Rattle.wb_row_codec.proofs.BackEntries.{within-between, within-count, within-date}
use Rattle.wb_row_codec.proofs.BackValues.{bytes-back, dates-back, most-back, text-back, whole-back}
use Rattle.wb_row_codec.proofs.Canonical.{AreWithin, IsWithin, within-any, within-append, within-flag, within-number, within-object, within-string, within-where}

-- ---- the ranges

-- each range of a tenant's settings
pub record AreInRange (x : TenantItem) : Type 0 where
  pub tenant : is_between 1 64 x.tenant ≡ true
  pub name : has_bytes 1 128 x.name ≡ true
  pub notice : nat_le x.notice_days 30 ≡ true
  pub offset : is_offset x.offset ≡ true
  pub quota : is_between 1 100_000 x.quota ≡ true
  pub holidays : are_holidays x.calendar.holidays ≡ true

ranges : (x : TenantItem) → is_tenant_item x ≡ true → AreInRange x
ranges x is =
    let h = and_parts (is_between 1 64 x.tenant && has_bytes 1 128 x.name && nat_le x.notice_days 30 && is_offset x.offset && is_between 1 100_000 x.quota) (are_holidays x.calendar.holidays) is in
    let q = and_parts (is_between 1 64 x.tenant && has_bytes 1 128 x.name && nat_le x.notice_days 30 && is_offset x.offset) (is_between 1 100_000 x.quota) h.0 in
    let o = and_parts (is_between 1 64 x.tenant && has_bytes 1 128 x.name && nat_le x.notice_days 30) (is_offset x.offset) q.0 in
    let d = and_parts (is_between 1 64 x.tenant && has_bytes 1 128 x.name) (nat_le x.notice_days 30) o.0 in
    let n = and_parts (is_between 1 64 x.tenant) (has_bytes 1 128 x.name) d.0 in
    record { tenant = n.0; name = n.1; notice = d.1; offset = o.1; quota = q.1; holidays = h.1 }

pub tenant-in : (x : TenantItem) → is_tenant_item x ≡ true → is_between 1 64 x.tenant ≡ true
tenant-in x is = (ranges x is).tenant

-- ---- minutes

minutes_back : (z : ℤ) → is_offset z ≡ true → shapes.signed (neg_ℤ (pos 720)) (pos 840) (number (of_integer z)) ≡ Some z
minutes_back (pos n) is =
    let le = leb-true n 840 (and_parts (int_le (neg_ℤ (pos 720)) (pos n)) (int_le (pos n) (pos 840)) is).1 in
    let small : nat_lt n (2 ^ 63) ≡ true = lt-ltb _ _ (omega (arith, le)) in
    rw (small, is) refl
minutes_back (negsuc n) is = rw is refl

within-minutes : (n : ℕ) (z : ℤ) → is_offset z ≡ true → IsWithin n (number (of_integer z))
within-minutes n (pos k) is =
    let le = leb-true k 840 (and_parts (int_le (neg_ℤ (pos 720)) (pos k)) (int_le (pos k) (pos 840)) is).1 in
    within-number n (unsigned k) (omega (arith, le))
within-minutes n (negsuc k) is =
    let le = leb-true k 719 (and_parts (int_le (neg_ℤ (pos 720)) (negsuc k)) (int_le (negsuc k) (pos 840)) is).0 in
    within-number n (negative (negsuc k)) (omega (arith, le))

-- ---- the members, with or without those that may be left out

-- the first of them, which may be left out
abbrev early : Bool → Bool → TenantItem → List Member
early external has x = only_where external (codes "external", boolean external) ++ only_where has (codes "holidays", list_of date x.calendar.holidays)

abbrev middle : Bool → TenantItem → List Member
middle rolls x = (codes "name", string x.name) ∷ (codes "notice_days", whole_data x.notice_days) ∷ (codes "offset", number (of_integer x.offset)) ∷ (codes "quota", whole_data x.quota) ∷ only_where rolls (codes "roll", boolean rolls)

abbrev later : TenantItem → List Member
later x = (codes "salt", string (encode_lower x.salt.0)) ∷ []

abbrev shown : Bool → Bool → Bool → TenantItem → Data
shown external has rolls x = object_of ((early external has x ++ middle rolls x) ++ later x)

-- the holidays that are read where they stand, and where they do not
abbrev read_days : Bool → TenantItem → Option (List ℤ)
read_days has x = if has then list_read date_read (list_of date x.calendar.holidays) else Some []

-- what is read of the parts
abbrev made : ℕ → Bool → Option (List ℤ) → Bool → Option (List ℕ) → Option ℕ → Option ℤ → Option ℕ → Option Salt → Option TenantItem
made t external days rolls name notice_days offset quota salt =
    option_and_then (λ (own : Calendar). option_and_then (λ name. option_and_then (λ notice_days. option_and_then (λ offset. option_and_then (λ quota. option_map (λ salt.
    record { tenant = t; external = external; calendar = own; name = name; notice_days = notice_days; offset = offset; quota = quota; salt = salt })
    salt) quota) offset) notice_days) name) (option_map (λ days. record { roll = rolls; holidays = days }) (option_and_then (keep are_holidays) days))

module _ (x : TenantItem) where
  abbrev parts : Bool → Bool → Bool → Option TenantItem
  parts external has rolls = made x.tenant external (read_days has x) rolls (text 1 128 (string x.name)) (whole 0 30 (whole_data x.notice_days)) (shapes.signed (neg_ℤ (pos 720)) (pos 840) (number (of_integer x.offset))) (whole 1 100_000 (whole_data x.quota)) (shapes.salt (string (encode_lower x.salt.0)))

  in_parts : (external has rolls : Bool) → shapes.settings x.tenant (shown external has rolls x) ≡ parts external has rolls
  in_parts true true true = refl
  in_parts true true false = refl
  in_parts true false true = refl
  in_parts true false false = refl
  in_parts false true true = refl
  in_parts false true false = refl
  in_parts false false true = refl
  in_parts false false false = refl

  -- the holidays are read, left out or not
  days_back : (none : Bool) → (length x.calendar.holidays == 0) ≡ none → are_dates x.calendar.holidays ≡ true → read_days (not none) x ≡ Some x.calendar.holidays
  days_back true is are = ap Some (sym (no_days x.calendar.holidays (eqb-true _ _ is)))
    where
      no_days : (ds : List ℤ) → length ds ≡ 0 → ds ≡ []
      no_days [] e = refl
      no_days (d ∷ ds) e = absurd (omega (arith, e))
  days_back false is are = dates-back x.calendar.holidays are

  pub settings-back : is_tenant_item x ≡ true → are_dates x.calendar.holidays ≡ true → are_bytes 16 x.salt.0 ≡ true → shapes.settings x.tenant (settings_data x) ≡ Some x
  unfolding settings_data
  settings-back is are long =
      let own = ranges x is in
      in_parts x.external (not (length x.calendar.holidays == 0)) x.calendar.roll
      ∙ rw (days_back (length x.calendar.holidays == 0) refl are, own.holidays, text-back 1 128 x.name own.name, most-back 30 x.notice_days own.notice, minutes_back x.offset own.offset, whole-back 1 100_000 x.quota own.quota, bytes-back 16 x.salt.0 long) refl

  pub within-settings : is_tenant_item x ≡ true → IsWithin 2 (settings_data x)
  unfolding settings_data
  within-settings is =
      let own = ranges x is in
      let has = not (length x.calendar.holidays == 0) in
      let first = within-append 1 (only_where x.external (codes "external", boolean x.external)) (only_where has (codes "holidays", list_of date x.calendar.holidays))
      (within-where 1 x.external (codes "external", boolean x.external) (within-flag 1 x.external)) (within-where 1 has (codes "holidays", list_of date x.calendar.holidays) (within-any date 0 (within-date 0) x.calendar.holidays)) in
      let next : AreWithin 1 (middle x.calendar.roll x) = (
        within-string 1 x.name,
        (
          within-count 1 30 x.notice_days own.notice (omega arith),
          (
            within-minutes 1 x.offset own.offset,
            (
              within-between 1 1 100_000 x.quota own.quota (omega arith),
              within-where 1 x.calendar.roll (codes "roll", boolean x.calendar.roll) (within-flag 1 x.calendar.roll),
            ),
          ),
        ),
      ) in
      within-object 1 ((early x.external has x ++ middle x.calendar.roll x) ++ later x) (within-append 1 (early x.external has x ++ middle x.calendar.roll x) (later x) (within-append 1 (early x.external has x) (middle x.calendar.roll x) first next) (within-string 1 (encode_lower x.salt.0), tt))
