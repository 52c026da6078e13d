-- A day's text reads as that day, and some months after a day is a day again.
use Rattle.std.proofs.Common.{◌≡◌, ℕ, zero, suc, ◌+◌, ◌-◌, ◌*◌, ◌/◌, ◌%◌, ◌<◌, ◌≤◌, true, nat_lt, nat_le, Some, min, inl, inr, refl, ap, arith, ℤ, pos, neg_ℤ, ◌+ℤ◌, ◌≤ℤ◌, unsigned_abs}
use Rattle.std.proofs.lemmas.Bool.{cases_Bool, ltb-true, ltb-false, le-leb}
use Rattle.jiff_core.specs.Calendar.{IsBetween, days_of_years, days_of_months, day_count, days_from_civil, days_in_month}
use Rattle.jiff_core.proofs.SignedLemmas.{signed_arith}
use Rattle.jiff_core.proofs.CalendarLemmas.{days_from_civil-day_count, day_count-lt_year, days_in_month_bounds}
use Rattle.jiff_core.proofs.StandardFacts.{known_days}
use Rattle.wb_base.specs.Days.{CivilDate, date_at, date_of}
use Rattle.wb_base.specs.DateTexts.{date_text, is_real, number_of, read_date}
use Rattle.wb_base.specs.Terms.{months_later}
use Rattle.wb_terms.proofs.CivilDates.{IsDateAt, good_date, count_of}

-- two digits of a number below 100 are read as that number
number_of-two_digits : (n : ℕ) → n < 100 → number_of (48 + n / 10) (48 + n % 10) ≡ Some n
number_of-two_digits n h =
    let a : n / 10 ≤ 9 = omega arith in
    let b : n % 10 ≤ 9 = omega arith in
    let low1 : nat_le 48 (48 + n / 10) ≡ true = le-leb _ _ (omega arith) in
    let high1 : nat_le (48 + n / 10) 57 ≡ true = le-leb _ _ (omega arith) in
    let low2 : nat_le 48 (48 + n % 10) ≡ true = le-leb _ _ (omega arith) in
    let high2 : nat_le (48 + n % 10) 57 ≡ true = le-leb _ _ (omega arith) in
    let value : (48 + n / 10 - 48) * 10 + (48 + n % 10 - 48) ≡ n = omega arith in
    rw (low1, high1, low2, high2, value) refl

known_last : days_from_civil (pos 5199) 12 31 ≡ pos 1_179_732
unfolding days_from_civil day_count days_of_years days_of_months
known_last = refl

known_2nd : days_from_civil (pos 5229) 12 31 ≡ pos 1_190_690
unfolding days_from_civil day_count days_of_years days_of_months
known_2nd = refl

-- a date before the end of a year has that year at most, and one from its first day on that year at least
pub year_at_most : (y : ℕ) (last : ℤ) (n : ℕ) (d : CivilDate) → y ≤ 9999 → days_from_civil (pos y) 12 31 ≡ last → IsDateAt n d → pos n ≤ℤ (last +ℤ pos 1) → d.year ≤ y
year_at_most y last n d small known h low = elim (cases_Bool (nat_lt y d.year)) [
  | inl above ↦
      let lt = ltb-true _ _ above in
      let later = day_count-lt_year (pos y) 12 31 (pos d.year) d.month d.day ((omega (arith, signed_arith), omega (arith, signed_arith)), (omega arith, omega arith), (omega arith, omega arith)) h.day_low (omega (arith, signed_arith)) in
      absurd (omega (arith, signed_arith, days_from_civil-day_count, known, h.count))
  | inr within ↦ ltb-false _ _ within
]

year_at_least : (n : ℕ) (d : CivilDate) → IsDateAt n d → 1 ≤ n → 1970 ≤ d.year
year_at_least n d h some = elim (cases_Bool (nat_lt d.year 1970)) [
  | inl below ↦
      let lt = ltb-true _ _ below in
      let earlier = day_count-lt_year (pos d.year) d.month d.day (pos 1970) 1 1 ((omega (arith, signed_arith), omega (arith, signed_arith)), (h.month_low, h.month_high), (h.day_low, h.day_high)) (omega arith) (omega (arith, signed_arith)) in
      absurd (omega (arith, signed_arith, days_from_civil-day_count, known_days.0, h.count))
  | inr within ↦ ltb-false _ _ within
]

real : (n : ℕ) (d : CivilDate) → IsDateAt n d → 1 ≤ n → n ≤ 1_179_733 → is_real d ≡ true
real n d h some low =
    let y1 : nat_le 1970 d.year ≡ true = le-leb _ _ (year_at_least n d h some) in
    let y2 : nat_le d.year 5199 ≡ true = le-leb _ _ (year_at_most 5199 _ n d (omega arith) known_last h (omega (arith, signed_arith))) in
    let m1 : nat_le 1 d.month ≡ true = le-leb _ _ h.month_low in
    let m2 : nat_le d.month 12 ≡ true = le-leb _ _ h.month_high in
    let d1 : nat_le 1 d.day ≡ true = le-leb _ _ h.day_low in
    let d2 : nat_le d.day (days_in_month (pos d.year) d.month) ≡ true = le-leb _ _ h.day_high in
    rw (y1, y2, m1, m2, d1, d2) refl

-- a text's day, for the days that `read_date` can name
pub read_date-date_text : (day : ℤ) → pos 0 ≤ℤ day → day ≤ℤ pos 1_179_732 → read_date (date_text day) ≡ Some day
unfolding read_date
read_date-date_text day low high =
    let k = count_of day (omega (arith, signed_arith), omega (arith, signed_arith)) in
    let n = unsigned_abs (day +ℤ pos 1) in
    let d = date_of day in
    let h = good_date n in
    let small : n ≤ 1_179_733 = omega (arith, signed_arith, k.0) in
    let some : 1 ≤ n = omega (arith, signed_arith, k.0) in
    let year = year_at_most 5199 _ n d (omega arith) known_last h (omega (arith, signed_arith)) in
    let long = days_in_month_bounds (pos d.year) d.month in
    let c : d.year / 100 < 100 = omega arith in
    let y : d.year % 100 < 100 = omega arith in
    let m : d.month < 100 = omega (arith, h.month_high) in
    let t : d.day < 100 = omega (arith, h.day_high) in
    let whole : d.year / 100 * 100 + d.year % 100 ≡ d.year = omega arith in
    let is = real n d h some small in
    let back : days_from_civil (pos d.year) d.month d.day ≡ day = omega (arith, signed_arith, h.count, k.0) in
    rw (number_of-two_digits _ c, number_of-two_digits _ y, number_of-two_digits _ m, number_of-two_digits _ t, whole, is) (ap Some back)

known_5228 : days_from_civil (pos 5228) 12 31 ≡ pos 1_190_325
unfolding days_from_civil day_count days_of_years days_of_months
known_5228 = refl

known_5230 : days_from_civil (pos 5230) 1 1 ≡ pos 1_190_691
unfolding days_from_civil day_count days_of_years days_of_months
known_5230 = refl

-- a month of 1970 or later, three months or more after a day from -1 on
pub months_from : (k n : ℕ) → 3 ≤ k → 1970 * 12 ≤ (date_at n).year * 12 + ((date_at n).month - 1) + k
unfolding date_at
months_from k zero more = omega (arith, more)
months_from k (suc n) more = let y = year_at_least (suc n) (date_at (suc n)) (good_date (suc n)) (omega arith) in omega (arith, y)

pub months-bounds : (months : ℕ) (day : ℤ) → 3 ≤ months → months ≤ 6 → neg_ℤ (pos 1) ≤ℤ day → day ≤ℤ pos 1_190_007 → IsBetween (neg_ℤ (pos 1)) (pos 1_190_690) (months_later months day)
months-bounds months day more few low high =
    let k = count_of day (low, omega (arith, signed_arith)) in
    let n = unsigned_abs (day +ℤ pos 1) in
    let d = date_of day in
    let h = good_date n in
    let year : d.year ≤ 5228 = year_at_most 5228 _ n d (omega arith) known_5228 h (omega (arith, signed_arith, k.0)) in
    let from = months_from months n more in
    let m = d.year * 12 + (d.month - 1) + months in
    let low_year : 1970 ≤ m / 12 = omega arith in
    let high_year : m / 12 ≤ 5229 = omega (arith, h.month_high, few) in
    let low_month : 1 ≤ m % 12 + 1 = omega arith in
    let high_month : m % 12 + 1 ≤ 12 = omega arith in
    let long = days_in_month_bounds (pos (m / 12)) (m % 12 + 1) in
    let day_low : 1 ≤ min d.day (days_in_month (pos (m / 12)) (m % 12 + 1)) = omega (arith, h.day_low) in
    let day_high : min d.day (days_in_month (pos (m / 12)) (m % 12 + 1)) ≤ days_in_month (pos (m / 12)) (m % 12 + 1) = omega arith in
    let after = day_count-lt_year (pos 1969) 12 31 (pos (m / 12)) (m % 12 + 1) _ ((omega (arith, signed_arith), omega (arith, signed_arith)), (omega arith, omega arith), (omega arith, omega arith)) day_low (omega (arith, signed_arith)) in
    let before = day_count-lt_year (pos (m / 12)) (m % 12 + 1) _ (pos 5230) 1 1 ((omega (arith, signed_arith), omega (arith, signed_arith)), (low_month, high_month), (day_low, day_high)) (omega arith) (omega (arith, signed_arith)) in
    (omega (arith, signed_arith, days_from_civil-day_count, known_days.1, after), omega (arith, signed_arith, days_from_civil-day_count, known_5230, before))
