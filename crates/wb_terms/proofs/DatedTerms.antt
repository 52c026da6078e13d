-- The days of a term, rolled or not, have dates that are read, where it begins at a moment of a host.
use Rattle.std.proofs.Common.{◌≡◌, ℕ, ◌+◌, ◌-◌, ◌*◌, ◌/◌, ◌%◌, ◌≤◌, Bool, true, false, cond, eqb, min, unsigned_abs, List, [], ◌∷◌, length, fold, Option, unwrap_or, refl, arith, ℤ, pos, neg_ℤ, ◌+ℤ◌, ◌≤ℤ◌, int_eq}
use Rattle.std.proofs.lemmas.Int.{ints}
use Rattle.jiff_core.specs.Calendar.{days_in_month, days_from_civil, days_of_years, days_of_months, day_count, weekday_number}
use Rattle.jiff_core.proofs.SignedLemmas.{signed_arith}
use Rattle.jiff_core.proofs.CalendarLemmas.{days_from_civil-day_count, day_count-lt_year, days_in_month_bounds}
use Rattle.jiff_core.proofs.StandardFacts.{known_days}
use Rattle.wb_base.specs.Calendars.{Calendar, after_weekend, after_holiday, end}
use Rattle.wb_base.specs.Days.{IsOffset, date_of, day_of}
use Rattle.wb_base.specs.Terms.{months_later, feedback_months, feedback_due, ack_due}
use Rattle.wb_terms.proofs.CivilDates.{good_date, count_of}
use Rattle.wb_terms.proofs.ReadBack.{year_at_most, months_from}

known_5197 : days_from_civil (pos 5197) 12 31 ≡ pos 1_179_002
unfolding days_from_civil day_count days_of_years days_of_months
known_5197 = refl

known_5199 : days_from_civil (pos 5199) 1 1 ≡ pos 1_179_368
unfolding days_from_civil day_count days_of_years days_of_months
known_5199 = refl

-- three to six months after a day that is not too late
pub dated_months : (months : ℕ) (day : ℤ) → 3 ≤ months → months ≤ 6 → neg_ℤ (pos 1) ≤ℤ day → day ≤ℤ pos 1_170_000 → (neg_ℤ (pos 1) ≤ℤ months_later months day) × (months_later months day ≤ℤ pos 1_179_368)
dated_months months day more few low high =
    let k = count_of day (low, omega (arith, signed_arith)) in
    let n = unsigned_abs (day +ℤ pos 1) in
    let d = date_of day in
    let h = good_date n in
    let year : d.year ≤ 5197 = year_at_most 5197 _ n d (omega arith) known_5197 h (omega (arith, signed_arith, k.0)) in
    let from = months_from months n more in
    let m = d.year * 12 + (d.month - 1) + months in
    let low_year : 1970 ≤ m / 12 = omega arith in
    let high_year : m / 12 ≤ 5198 = omega (arith, h.month_high, few) in
    let low_month : 1 ≤ m % 12 + 1 = omega arith in
    let high_month : m % 12 + 1 ≤ 12 = omega arith in
    let long = days_in_month_bounds (pos (m / 12)) (m % 12 + 1) in
    let day_low : 1 ≤ min d.day (days_in_month (pos (m / 12)) (m % 12 + 1)) = omega (arith, h.day_low) in
    let day_high : min d.day (days_in_month (pos (m / 12)) (m % 12 + 1)) ≤ days_in_month (pos (m / 12)) (m % 12 + 1) = omega arith in
    let after = day_count-lt_year (pos 1969) 12 31 (pos (m / 12)) (m % 12 + 1) _ ((omega (arith, signed_arith), omega (arith, signed_arith)), (omega arith, omega arith), (omega arith, omega arith)) day_low (omega (arith, signed_arith)) in
    let before = day_count-lt_year (pos (m / 12)) (m % 12 + 1) _ (pos 5199) 1 1 ((omega (arith, signed_arith), omega (arith, signed_arith)), (low_month, high_month), (day_low, day_high)) (omega arith) (omega (arith, signed_arith)) in
    (omega (arith, signed_arith, days_from_civil-day_count, known_days.1, after), omega (arith, signed_arith, days_from_civil-day_count, known_5199, before))

-- ---- rolled

weekend_bounds : (day : ℤ) → (day ≤ℤ after_weekend day) × (after_weekend day ≤ℤ (day +ℤ pos 2))
weekend_bounds day = by (eqb (weekday_number day) 5) (eqb (weekday_number day) 6)
  where
    by : (b c : Bool) → (day ≤ℤ cond b (day +ℤ pos 2) (cond c (day +ℤ pos 1) day)) × (cond b (day +ℤ pos 2) (cond c (day +ℤ pos 1) day) ≤ℤ (day +ℤ pos 2))
    by true c = (omega (arith, signed_arith), omega (arith, signed_arith))
    by false true = (omega (arith, signed_arith), omega (arith, signed_arith))
    by false false = (omega (arith, signed_arith), omega (arith, signed_arith))

holiday_bounds : (day holiday : ℤ) → (day ≤ℤ after_holiday day holiday) × (after_holiday day holiday ≤ℤ (day +ℤ pos 3))
holiday_bounds day holiday = by (int_eq holiday day) refl
  where
    by : (b : Bool) → int_eq holiday day ≡ b → (day ≤ℤ cond b (after_weekend (holiday +ℤ pos 1)) day) × (cond b (after_weekend (holiday +ℤ pos 1)) day ≤ℤ (day +ℤ pos 3))
    by true is =
        let same : holiday ≡ day = grind (arith, ints, is) in
        let k = weekend_bounds (holiday +ℤ pos 1) in
        (omega (arith, signed_arith, same, k.0), omega (arith, signed_arith, same, k.1))
    by false is = (omega (arith, signed_arith), omega (arith, signed_arith))

fold_bounds : (day : ℤ) (holidays : List ℤ) → (day ≤ℤ fold after_holiday day holidays) × (fold after_holiday day holidays ≤ℤ (day +ℤ pos (3 * length holidays)))
fold_bounds day [] = (omega (arith, signed_arith), omega (arith, signed_arith))
fold_bounds day (h ∷ hs) =
    let first = holiday_bounds day h in
    let rest = fold_bounds (after_holiday day h) hs in
    (omega (arith, signed_arith, first.0, rest.0), omega (arith, signed_arith, first.1, rest.1))

-- at most 194 days are put off
pub dated_end : (calendar : Calendar) (day : ℤ) → length calendar.holidays ≤ 64 → (day ≤ℤ end calendar day) × (end calendar day ≤ℤ (day +ℤ pos 194))
dated_end calendar day few = by calendar.roll
  where
    by : (b : Bool) → (day ≤ℤ cond b (fold after_holiday (after_weekend day) calendar.holidays) day) × (cond b (fold after_holiday (after_weekend day) calendar.holidays) day ≤ℤ (day +ℤ pos 194))
    by false = (omega (arith, signed_arith), omega (arith, signed_arith))
    by true =
        let first = weekend_bounds day in
        let rest = fold_bounds (after_weekend day) calendar.holidays in
        (omega (arith, signed_arith, first.0, rest.0), omega (arith, signed_arith, first.1, rest.1, few))

-- ---- the terms

-- the day of a moment is not too late
pub dated_day : (moment : ℕ) (offset : ℤ) → moment ≤ 99_999_999_999 → IsOffset offset → (neg_ℤ (pos 1) ≤ℤ day_of moment offset) × (day_of moment offset ≤ℤ pos 1_157_408)
dated_day moment offset high h = (omega (arith, signed_arith), omega (arith, signed_arith))

pub dated_ack : (received : ℤ) (calendar : Calendar) → length calendar.holidays ≤ 64 → neg_ℤ (pos 1) ≤ℤ received → received ≤ℤ pos 1_157_408 → (neg_ℤ (pos 1) ≤ℤ ack_due received calendar) × (ack_due received calendar ≤ℤ pos 1_179_732)
dated_ack received calendar few low high =
    let k = dated_end calendar (received +ℤ pos 7) few in
    (omega (arith, signed_arith, low, k.0), omega (arith, signed_arith, high, k.1))

months_few : (extended : Bool) → (3 ≤ feedback_months extended) × (feedback_months extended ≤ 6)
months_few true = (omega arith, omega arith)
months_few false = (omega arith, omega arith)

pub dated_feedback : (received : ℤ) (acknowledged : Option ℤ) (extended : Bool) (calendar : Calendar) → length calendar.holidays ≤ 64
    → neg_ℤ (pos 1) ≤ℤ unwrap_or acknowledged (received +ℤ pos 7) → unwrap_or acknowledged (received +ℤ pos 7) ≤ℤ pos 1_157_415
    → (neg_ℤ (pos 1) ≤ℤ feedback_due received acknowledged extended calendar) × (feedback_due received acknowledged extended calendar ≤ℤ pos 1_179_732)
dated_feedback received acknowledged extended calendar few low high =
    let months = months_few extended in
    let from = dated_months (feedback_months extended) (unwrap_or acknowledged (received +ℤ pos 7)) months.0 months.1 low (omega (arith, signed_arith, high)) in
    let k = dated_end calendar (months_later (feedback_months extended) (unwrap_or acknowledged (received +ℤ pos 7))) few in
    (omega (arith, signed_arith, from.0, k.0), omega (arith, signed_arith, from.1, k.1))
