-- The date of a day is the one that jiff counts as that day.
use Rattle.std.proofs.Common.{◌≡◌, ℕ, zero, suc, ◌+◌, ◌≤◌, nat_lt, inl, inr, refl, ap, ◌∙◌, arith, rules, ℤ, pos, negsuc, ◌+ℤ◌, ◌≤ℤ◌, unsigned_abs}
use Rattle.std.proofs.lemmas.Bool.{cases_Bool, ltb-true, ltb-false}
use Rattle.jiff_core.specs.declared.civil.date.Date.{Date}
use Rattle.jiff_core.specs.Calendar.{days_of_years, days_of_months, day_count, days_from_civil, days_in_month}
use Rattle.jiff_core.specs.Date.{epoch_day}
use Rattle.jiff_core.proofs.SignedLemmas.{signed_arith}
use Rattle.jiff_core.proofs.CalendarLemmas.{days_from_civil-day_count, day_count-lt_year, days_in_month_bounds}
use Rattle.jiff_core.proofs.DateLemmas.{days_from_civil-day, days_from_civil-next_month, days_from_civil-next_year, epoch_day_injective}
use Rattle.jiff_core.proofs.StandardFacts.{known_days}
use Rattle.wb_base.specs.Days.{CivilDate, next_date, date_at, date_of, IsDay}

pub record IsDateAt (n : ℕ) (d : CivilDate) : Type 0 where
  pub month_low : 1 ≤ d.month
  pub month_high : d.month ≤ 12
  pub day_low : 1 ≤ d.day
  pub day_high : d.day ≤ days_in_month (pos d.year) d.month
  pub count : days_from_civil (pos d.year) d.month d.day +ℤ pos 1 ≡ pos n

step : (n : ℕ) (d : CivilDate) → IsDateAt n d → IsDateAt (suc n) (next_date d)
step n d h = elim (cases_Bool (nat_lt d.day (days_in_month (pos d.year) d.month))) [
  | inl within ↦
      let lt = ltb-true _ _ within in
      let more = days_from_civil-day (pos d.year) d.month d.day (d.day + 1) h.day_low (omega arith) in
      rw within record {
        month_low = h.month_low;
        month_high = h.month_high;
        day_low = omega arith;
        day_high = omega arith;
        count = omega (arith, signed_arith, h.count);
      }
  | inr past ↦
      let ge = ltb-false _ _ past in
      let last : d.day ≡ days_in_month (pos d.year) d.month = omega (arith, h.day_high) in
      elim (cases_Bool (nat_lt d.month 12)) [
        | inl more_months ↦
            let lt = ltb-true _ _ more_months in
            let long = days_in_month_bounds (pos d.year) (d.month + 1) in
            let next = days_from_civil-next_month (pos d.year) d.month d.day h.month_low last in
            rw (past, more_months) record {
              month_low = omega arith;
              month_high = omega arith;
              day_low = omega arith;
              day_high = omega arith;
              count = omega (arith, signed_arith, h.count);
            }
        | inr december ↦
            let ge12 = ltb-false _ _ december in
            let is12 : d.month ≡ 12 = omega (arith, h.month_high) in
            let is31 : d.day ≡ 31 = last ∙ rw is12 refl in
            let next = days_from_civil-next_year (pos d.year) (pos (d.year + 1)) (omega (arith, signed_arith)) (omega (arith, signed_arith)) in
            let here : days_from_civil (pos d.year) 12 31 +ℤ pos 1 ≡ pos n = rw (← is12, ← is31) h.count in
            rw (past, december) record {
              month_low = omega arith;
              month_high = omega arith;
              day_low = omega arith;
              day_high = omega arith;
              count = omega (arith, signed_arith, here);
            }
      ]
]

pub good_date : (n : ℕ) → IsDateAt n (date_at n)
unfolding date_at
good_date zero = record {
  month_low = omega arith;
  month_high = omega arith;
  day_low = omega arith;
  day_high = omega arith;
  count = rw known_days.1 refl;
}
good_date (suc n) = step n (date_at n) (good_date n)

known_far : days_from_civil (pos 6000) 12 31 ≡ pos 1472292
unfolding days_from_civil day_count days_of_years days_of_months
known_far = refl

year_within : (n : ℕ) (d : CivilDate) → IsDateAt n d → n ≤ 1_472_292 → d.year ≤ 6000
year_within n d h low = elim (cases_Bool (nat_lt 6000 d.year)) [
  | inl above ↦
      let lt = ltb-true _ _ above in
      let later = day_count-lt_year (pos 6000) 12 31 (pos d.year) d.month d.day (search rules) h.day_low (omega (arith, signed_arith)) in
      absurd (omega (arith, signed_arith, days_from_civil-day_count, known_far, h.count))
  | inr within ↦ ltb-false _ _ within
]

-- the library's date of that day has the same parts
same_parts : (a : Date) (n : ℕ) → epoch_day a +ℤ pos 1 ≡ pos n → n ≤ 1_472_292 → (a.year ≡ pos (date_at n).year) × (a.month ≡ (date_at n).month) × (a.day ≡ (date_at n).day)
same_parts a n e low =
    let h = good_date n in
    let year = year_within n (date_at n) h low in
    let b : Date = record {
      year = pos (date_at n).year;
      month = (date_at n).month;
      day = (date_at n).day;
      year_in = (omega (arith, signed_arith), omega (arith, signed_arith));
      month_in = (h.month_low, h.month_high);
      day_in = (h.day_low, h.day_high);
    } in
    epoch_day_injective a b (omega (arith, signed_arith, h.count))

nonnegative : (z : ℤ) → pos 0 ≤ℤ z → z ≡ pos (unsigned_abs z)
nonnegative (pos n) h = refl
nonnegative (negsuc n) h = absurd (omega (arith, signed_arith))

pub count_of : (day : ℤ) → IsDay day → (day +ℤ pos 1 ≡ pos (unsigned_abs (day +ℤ pos 1))) × (unsigned_abs (day +ℤ pos 1) ≤ 1_472_292)
count_of day h =
    let e = nonnegative (day +ℤ pos 1) (omega (arith, signed_arith)) in
    (e, omega (arith, signed_arith))

pub same_date : (a : Date) (day : ℤ) → epoch_day a ≡ day → IsDay day → (a.year ≡ pos (date_of day).year) × (a.month ≡ (date_of day).month) × (a.day ≡ (date_of day).day)
same_date a day e h =
    let k = count_of day h in
    same_parts a (unsigned_abs (day +ℤ pos 1)) (ap (λ z. z +ℤ pos 1) e ∙ k.0) k.1

-- the year of a day has four digits
pub year_bound : (day : ℤ) → IsDay day → (date_of day).year ≤ 6000
year_bound day h = let k = unsigned_abs (day +ℤ pos 1) in year_within k (date_at k) (good_date k) (count_of day h).1
