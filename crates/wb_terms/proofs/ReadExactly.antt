-- A text that reads as a day is the text of that day.
use Rattle.std.proofs.Common.{◌≡◌, ℕ, ◌+◌, ◌-◌, ◌*◌, ◌/◌, ◌%◌, ◌<◌, ◌≤◌, Bool, true, false, nat_le, ◌&&◌, List, [], ◌∷◌, length, get_or, drop, Option, Some, None, if◌then◌else◌, refl, sym, ◌∙◌, arith, ℤ, pos}
use Rattle.std.proofs.Math.ListN.{drop_of_length-le}
use Rattle.std.specs.Char.{is_ascii_digit}
use Rattle.std.proofs.lemmas.List.{drop_more}
use Rattle.std.proofs.lemmas.Bool.{and_parts, eqb-true, leb-true}
use Rattle.std.proofs.lemmas.Option.{cond_some, none-some, option_and_then_some}
use Rattle.jiff_core.specs.declared.civil.date.Date.{Date}
use Rattle.jiff_core.specs.Calendar.{IsBetween, days_in_month}
use Rattle.jiff_core.proofs.SignedLemmas.{signed_arith}
use Rattle.wb_base.specs.Days.{CivilDate, IsEarlyDay, date_of}
use Rattle.wb_base.specs.DateTexts.{date_text, day_if_real, is_real, number_at, number_of, read_date}
use Rattle.wb_terms.proofs.CivilDates.{same_date}
use Rattle.wb_terms.proofs.Ranges.{epoch_day_bounds, IsDay-epoch_day}

-- two bytes that are read as a number are its two digits
record AreDigitsOf (a b n : ℕ) : Type 0 where
  small : n < 100
  tens : a ≡ 48 + n / 10
  ones : b ≡ 48 + n % 10

digit_bounds : (x : ℕ) → is_ascii_digit x ≡ true → (48 ≤ x) × (x ≤ 57)
digit_bounds x e = let both = and_parts (nat_le 48 x) (nat_le x 57) e in (leb-true 48 x both.0, leb-true x 57 both.1)

digits_of : (a b n : ℕ) → number_of a b ≡ Some n → AreDigitsOf a b n
digits_of a b n e =
    let read = cond_some (is_ascii_digit a && is_ascii_digit b) ((a - 48) * 10 + (b - 48)) n e in
    let both = and_parts (is_ascii_digit a) (is_ascii_digit b) read.0 in
    let first = digit_bounds a both.0 in
    let second = digit_bounds b both.1 in
    let value = read.1 in
    record {
      small = omega arith;
      tens = omega arith;
      ones = omega arith;
    }

-- what a real date satisfies
record IsReal (d : CivilDate) : Type 0 where
  year_low : 1970 ≤ d.year
  year_high : d.year ≤ 5199
  month_low : 1 ≤ d.month
  month_high : d.month ≤ 12
  day_low : 1 ≤ d.day
  day_high : d.day ≤ days_in_month (pos d.year) d.month

real_parts : (d : CivilDate) → is_real d ≡ true → IsReal d
real_parts d e =
    let p5 = and_parts _ _ e in
    let p4 = and_parts _ _ p5.0 in
    let p3 = and_parts _ _ p4.0 in
    let p2 = and_parts _ _ p3.0 in
    let p1 = and_parts _ _ p2.0 in
    record {
      year_low = leb-true _ _ p1.0;
      year_high = leb-true _ _ p1.1;
      month_low = leb-true _ _ p2.1;
      month_high = leb-true _ _ p3.1;
      day_low = leb-true _ _ p4.1;
      day_high = leb-true _ _ p5.1;
    }

-- a real date is the date of its day, which is one from 1970-01-01 to 5199-12-31
record IsDateOf (day : ℤ) (d : CivilDate) : Type 0 where
  year : (date_of day).year ≡ d.year
  month : (date_of day).month ≡ d.month
  day_of_month : (date_of day).day ≡ d.day
  bounds : IsBetween (pos 0) (pos 1_179_732) day

date_of_real : (d : CivilDate) (day : ℤ) → day_if_real d ≡ Some day → IsDateOf day d
date_of_real d day e =
    let read = cond_some _ _ _ e in
    let is = real_parts d read.0 in
    let a : Date = record {
      year = pos d.year;
      month = d.month;
      day = d.day;
      year_in = (omega (arith, signed_arith, is.year_low), omega (arith, signed_arith, is.year_high));
      month_in = (is.month_low, is.month_high);
      day_in = (is.day_low, is.day_high);
    } in
    let bounds = epoch_day_bounds a (omega (arith, signed_arith, is.year_low)) (omega (arith, signed_arith, is.year_high)) in
    let within = IsDay-epoch_day a (omega (arith, signed_arith, is.year_low)) (omega (arith, signed_arith, is.year_high)) in
    let same = same_date a day read.1 (rw (← read.1) within) in
    record {
      year = omega (arith, signed_arith, same.0);
      month = sym same.1;
      day_of_month = sym same.2;
      bounds = rw (← read.1) bounds;
    }

-- a list from a place on, by its element there
from_place : (t : List ℕ) (i x : ℕ) (rest : List ℕ) → i < length t → get_or t i 0 ≡ x → drop (i + 1) t ≡ rest → drop i t ≡ x ∷ rest
from_place t i x rest within here more = drop_more t i 0 within ∙ rw (here, more) refl

exact_parts : (t : List ℕ) (c y m d : ℕ) (day : ℤ) → length t ≡ 10 → get_or t 4 0 ≡ 45 → get_or t 7 0 ≡ 45
    → number_at 0 t ≡ Some c → number_at 2 t ≡ Some y → number_at 5 t ≡ Some m → number_at 8 t ≡ Some d
    → day_if_real (record { year = c * 100 + y; month = m; day = d }) ≡ Some day → t ≡ date_text day
exact_parts t c y m d day ten dash4 dash7 at0 at2 at5 at8 real =
    let century = digits_of (get_or t 0 0) (get_or t 1 0) c at0 in
    let year = digits_of (get_or t 2 0) (get_or t 3 0) y at2 in
    let month = digits_of (get_or t 5 0) (get_or t 6 0) m at5 in
    let last = digits_of (get_or t 8 0) (get_or t 9 0) d at8 in
    let is = date_of_real (record { year = c * 100 + y; month = m; day = d }) day real in
    let high : (date_of day).year / 100 ≡ c = omega (arith, year.small, is.year) in
    let low : (date_of day).year % 100 ≡ y = omega (arith, year.small, is.year) in
    let within : length t ≤ 10 = omega arith in
    let none_left : drop (9 + 1) t ≡ [] = drop_of_length-le t within in
    rw (high, low, is.month, is.day_of_month)
    (from_place t 0 _ _ (omega arith) century.tens
    (from_place t 1 _ _ (omega arith) century.ones
    (from_place t 2 _ _ (omega arith) year.tens
    (from_place t 3 _ _ (omega arith) year.ones
    (from_place t 4 _ _ (omega arith) dash4
    (from_place t 5 _ _ (omega arith) month.tens
    (from_place t 6 _ _ (omega arith) month.ones
    (from_place t 7 _ _ (omega arith) dash7
    (from_place t 8 _ _ (omega arith) last.tens
    (from_place t 9 _ _ (omega arith) last.ones
    none_left))))))))))

taken : (b : Bool) (o : Option ℤ) (day : ℤ) → (if b then o else None) ≡ Some day → (b ≡ true) × (o ≡ Some day)
taken true o day e = (refl, e)
taken false o day e = absurd (none-some day e)

-- what a text that reads as a day has
record IsTextOf (day : ℤ) (t : List ℕ) : Type 0 where
  pub text : t ≡ date_text day
  pub bounds : IsBetween (pos 0) (pos 1_179_732) day

read_parts : (t : List ℕ) (day : ℤ) → read_date t ≡ Some day → IsTextOf day t
unfolding read_date
read_parts t day e =
    let outer = taken _ _ day e in
    let form = and_parts _ _ outer.0 in
    let ends = and_parts _ _ form.0 in
    option_and_then_some _ _ day outer.1 (λ c at0 rest0.
    option_and_then_some _ _ day rest0 (λ y at2 rest2.
    option_and_then_some _ _ day rest2 (λ m at5 rest5.
    option_and_then_some _ _ day rest5 (λ d at8 real.
    record {
      text = exact_parts t c y m d day (eqb-true _ _ ends.0) (eqb-true _ _ ends.1) (eqb-true _ _ form.1) at0 at2 at5 at8 real;
      bounds = (date_of_real (record { year = c * 100 + y; month = m; day = d }) day real).bounds;
    }))))

-- a text that reads as a day is the text of that day
pub date_text-read_date : (t : List ℕ) (day : ℤ) → read_date t ≡ Some day → t ≡ date_text day
date_text-read_date t day e = (read_parts t day e).text

-- .. which is one from 1970-01-01 to 5199-12-31
pub read_date-bounds : (t : List ℕ) (day : ℤ) → read_date t ≡ Some day → IsBetween (pos 0) (pos 1_179_732) day
read_date-bounds t day e = (read_parts t day e).bounds

-- .. and so early enough for terms
pub read_date_is_early : (t : List ℕ) (day : ℤ) → read_date t ≡ Some day → IsEarlyDay day
read_date_is_early t day e =
    let bounds = read_date-bounds t day e in
    (omega (arith, signed_arith, bounds.0), omega (arith, signed_arith, bounds.1))
