-- Months added to a day, and a day's text, are what jiff gives for the day's date.
use Rattle.std.proofs.Common.{◌≡◌, ℕ, ◌+◌, ◌-◌, ◌*◌, ◌/◌, ◌%◌, min, refl, arith, ℤ, pos, ◌+ℤ◌, unsigned_abs}
use Rattle.std.specs.Int.{int_div_euclid, int_rem_euclid}
use Rattle.jiff_core.specs.declared.civil.date.Date.{Date}
use Rattle.jiff_core.specs.Calendar.{days_from_civil, days_in_month}
use Rattle.jiff_core.specs.Date.{epoch_day}
use Rattle.jiff_core.proofs.SignedLemmas.{signed_arith}
use Rattle.jiff_span.specs.Months.{month_number, add_months}
use Rattle.jiff_fmt.specs.Text as text
use Rattle.wb_base.specs.Days.{IsDay, date_of}
use Rattle.wb_base.specs.DateTexts.{date_text}
use Rattle.wb_base.specs.Terms.{months_later}
use Rattle.wb_terms.proofs.CivilDates.{same_date}

at_months : (z : ℤ) (m d e : ℕ) → z ≡ pos m → d ≡ e
    → days_from_civil (int_div_euclid z (pos 12)) (unsigned_abs (int_rem_euclid z (pos 12)) + 1) (min d (days_in_month (int_div_euclid z (pos 12)) (unsigned_abs (int_rem_euclid z (pos 12)) + 1)))
    ≡ days_from_civil (pos (m / 12)) (m % 12 + 1) (min e (days_in_month (pos (m / 12)) (m % 12 + 1)))
at_months z m d e same day = rw (same, day) refl

pub add_months-months_later : (a : Date) (day : ℤ) (k : ℕ) → epoch_day a ≡ day → IsDay day → add_months a (pos k) ≡ months_later k day
add_months-months_later a day k e h =
    let same = same_date a day e h in
    let d = date_of day in
    let month : a.month ≡ d.month = same.1 in
    let year : a.year ≡ pos d.year = same.0 in
    let number : month_number a +ℤ pos k ≡ pos (d.year * 12 + (d.month - 1) + k) = rw (year, month) (omega (arith, signed_arith)) in
    at_months _ _ a.day d.day number same.2

pub date_text-jiff : (a : Date) (day : ℤ) → epoch_day a ≡ day → IsDay day → text.date_text a ≡ date_text day
date_text-jiff a day e h = let same = same_date a day e h in rw (same.0, same.1, same.2) refl
