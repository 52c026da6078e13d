-- The text of a notice: its date stands at one place, and no number is a floating one.
use Rattle.std.proofs.Common.{◌≡◌, ℕ, zero, suc, ◌+◌, ◌/◌, ◌%◌, ◌<◌, ◌≤◌, ◌++◌, Bool, true, false, List, [], ◌∷◌, length, Option, Some, None, ℤ, pos, negsuc, neg_ℤ, ◌+ℤ◌, ◌≤ℤ◌, unsigned_abs, codes, refl, sym, ap, ◌∙◌, arith}
use Rattle.std.proofs.lemmas.Bool.{and_parts, leb-true, le-leb}
use Rattle.std.proofs.lemmas.Bool.Decides.{nat_tests}
use Rattle.std.proofs.lemmas.Int.{ints}
use Rattle.std.specs.Prelude.{◌&&◌, nat_le, int_le, slice_range, IfSome}
use Rattle.jiff_core.specs.Calendar.{IsBetween}
use Rattle.jiff_core.proofs.CalendarLemmas.{days_in_month_bounds}
use Rattle.json.specs.Print.{escape, escape_byte}
use Rattle.serde_json.specs.Data.{string}
use Rattle.serde_json.specs.Written.{has_float, members_text}
use Rattle.wb_base.specs.DateTexts.{date_text, read_date, two_digits}
use Rattle.wb_base.specs.Days.{IsDay, date_of}
use Rattle.wb_base.specs.declared.rows.Row.{Row}
use Rattle.wb_model.specs.Fits.{is_between}
use Rattle.wb_model.specs.Json.{members_of, whole}
use Rattle.wb_row_codec.specs.Good.{is_dated, is_tenant}
use Rattle.wb_row_codec.specs.Shapes.{day_named}
use Rattle.wb_terms.proofs.CivilDates.{good_date, year_bound}
use Rattle.wb_terms.proofs.ReadBack.{read_date-date_text}
use Rattle.wb_terms.proofs.ReadExactly.{read_date-bounds}
use Rattle.wb_notice.specs.declared.notice.Notice.{Notice}
use Rattle.wb_notice.specs.Notices.{IsNotice, kind_name, notice_data, notice_row}
use Rattle.wb_row_codec.proofs.BackValues.{before_first, other_text, at_least}

pub in-notice : (n : Notice) → has_float (notice_data n) ≡ false
unfolding notice_data
in-notice n = refl

-- ---- the text of a date

-- digits and dashes stand for themselves
plain : (x : ℕ) → 45 ≤ x → x ≤ 57 → escape_byte x ≡ x ∷ []
unfolding escape_byte
plain x low high = grind (arith, nat_tests)

escape-date_parts : (year month day : ℕ) → year ≤ 6000 → month < 100 → day < 100
    → escape (two_digits (year / 100) ++ two_digits (year % 100) ++ 45 ∷ two_digits month ++ 45 ∷ two_digits day) ≡ two_digits (year / 100) ++ two_digits (year % 100) ++ 45 ∷ two_digits month ++ 45 ∷ two_digits day
escape-date_parts year month day hy hm hd =
    let c : year / 100 < 100 = omega arith in
    let y : year % 100 < 100 = omega arith in
    let c1 = plain (48 + year / 100 / 10) (omega arith) (omega arith) in
    let c2 = plain (48 + year / 100 % 10) (omega arith) (omega arith) in
    let y1 = plain (48 + year % 100 / 10) (omega arith) (omega arith) in
    let y2 = plain (48 + year % 100 % 10) (omega arith) (omega arith) in
    let m1 = plain (48 + month / 10) (omega arith) (omega arith) in
    let m2 = plain (48 + month % 10) (omega arith) (omega arith) in
    let d1 = plain (48 + day / 10) (omega arith) (omega arith) in
    let d2 = plain (48 + day % 10) (omega arith) (omega arith) in
    let dash = plain 45 (omega arith) (omega arith) in
    rw (c1, c2, y1, y2, m1, m2, d1, d2, dash) refl

escape-date_text : (day : ℤ) → IsDay day → escape (date_text day) ≡ date_text day
escape-date_text day h =
    let d = date_of day in
    let good = good_date (unsigned_abs (day +ℤ pos 1)) in
    let long = days_in_month_bounds (pos d.year) d.month in
    escape-date_parts d.year d.month d.day (year_bound day h) (omega (arith, good.month_high)) (omega (arith, good.day_high))

-- ---- days that are kept

-- a day's text names that day
pub named : (d : ℤ) → is_dated d ≡ true → day_named (date_text d) ≡ Some d
named d is = let parts = and_parts (int_le (neg_ℤ (pos 1)) d) (int_le d (pos 1_179_732)) is in by d parts.0 parts.1
  where
    by : (d : ℤ) → int_le (neg_ℤ (pos 1)) d ≡ true → int_le d (pos 1_179_732) ≡ true → day_named (date_text d) ≡ Some d
    by (pos n) low high =
        let reads = read_date-date_text (pos n) (at_least (pos 0) (pos n) (le-leb 0 n (omega arith))) (at_least (pos n) (pos 1_179_732) high) in
        rw (other_text (pos n) reads) reads
    by (negsuc zero) low high = ap day_named before_first
    by (negsuc (suc n)) low high = let le = leb-true (suc n) 0 low in absurd (omega (arith, le))

is_at_most : (a b : ℤ) → a ≤ℤ b → int_le a b ≡ true
is_at_most a b le = grind (arith, ints, le)

-- a day that is read is one that is kept
pub read_is_dated : (t : List ℕ) (d : ℤ) → read_date t ≡ Some d → is_dated d ≡ true
read_is_dated t d reads = by d (read_date-bounds t d reads)
  where
    by : (d : ℤ) → IsBetween (pos 0) (pos 1_179_732) d → is_dated d ≡ true
    by (pos n) h = is_at_most (pos n) (pos 1_179_732) h.1
    by (negsuc n) h = let low = h.0 in absurd (omega (arith, ints, low))

-- .. where one is read
pub if_read : (o : Option ℤ) (t : List ℕ) → o ≡ read_date t → IfSome o (λ d. is_dated d ≡ true)
if_read None t e = tt
if_read (Some d) t e = read_is_dated t d (sym e)

is_day : (d : ℤ) → is_dated d ≡ true → IsDay d
is_day d is =
    let parts = and_parts (int_le (neg_ℤ (pos 1)) d) (int_le d (pos 1_179_732)) is in
    let low = at_least (neg_ℤ (pos 1)) d parts.0 in
    let high = at_least d (pos 1_179_732) parts.1 in
    (low, grind (arith, ints, high))

-- ---- the date in the text of a notice

-- what comes after it
abbrev after_date : Notice → List ℕ
after_date n = 34 ∷ members_text true (members_of ((codes "kind", string (kind_name n.kind)) ∷ (codes "number", whole n.number) ∷ (codes "user", whole n.user) ∷ []))

text_parts : (n : Notice) → is_dated n.day ≡ true → (notice_row n).text ≡ codes "{\"day\":\"" ++ (date_text n.day ++ after_date n)
unfolding notice_data escape_byte
text_parts n is = rw (escape-date_text n.day (is_day n.day is)) refl

-- the day of a notice is told at its place
pub told : (row : Row) (h : IsNotice row) → (18 ≤ length row.text) × (day_named (slice_range row.text 8 18) ≡ Some h.notice.day)
told row h =
    let n = h.notice in
    let dated = (and_parts (is_tenant n.tenant && nat_le 1 n.number && is_between 1 256 n.user) (is_dated n.day) h.ranged).1 in
    let text : row.text ≡ codes "{\"day\":\"" ++ (date_text n.day ++ after_date n) = ap (λ (r : Row). r.text) h.own ∙ text_parts n dated in
    (rw text (omega arith), rw text (named n.day dated))
