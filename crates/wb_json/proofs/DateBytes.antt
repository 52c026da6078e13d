-- The text of a date is ASCII.
use Rattle.std.proofs.Common.{ℕ, zero, suc, ◌+◌, ◌/◌, ◌%◌, ◌<◌, ◌≤◌, ◌++◌, ◌∷◌, [], ℤ, pos, unsigned_abs, ◌+ℤ◌, arith}
use Rattle.std.specs.Str.{IsAscii, IsUtf8}
use Rattle.std.proofs.lemmas.Str.{IsAscii-append, IsUtf8-from_ascii}
use Rattle.jiff_core.proofs.CalendarLemmas.{days_in_month_bounds}
use Rattle.wb_base.specs.Days.{IsDay, date_of}
use Rattle.wb_base.specs.DateTexts.{date_text, two_digits}
use Rattle.wb_terms.proofs.CivilDates.{good_date, year_bound}

IsAscii-one : (b : ℕ) → b < 128 → IsAscii (b ∷ [])
IsAscii-one b h zero = h
IsAscii-one b h (suc i) = omega arith

IsAscii-two_digits : (n : ℕ) → n < 100 → IsAscii (two_digits n)
IsAscii-two_digits n h = IsAscii-append ((48 + n / 10) ∷ []) ((48 + n % 10) ∷ []) (IsAscii-one _ (omega arith)) (IsAscii-one _ (omega arith))

IsUtf8-date_parts : (year month day : ℕ) → year ≤ 6000 → month < 100 → day < 100
    → IsAscii (two_digits (year / 100) ++ two_digits (year % 100) ++ 45 ∷ two_digits month ++ 45 ∷ two_digits day)
IsUtf8-date_parts year month day hy hm hd =
    let dash = IsAscii-one 45 (omega arith) in
    let last = IsAscii-append (45 ∷ []) (two_digits day) dash (IsAscii-two_digits day hd) in
    let later = IsAscii-append (45 ∷ []) (two_digits month ++ 45 ∷ two_digits day) dash (IsAscii-append (two_digits month) (45 ∷ two_digits day) (IsAscii-two_digits month hm) last) in
    IsAscii-append (two_digits (year / 100)) (two_digits (year % 100) ++ 45 ∷ two_digits month ++ 45 ∷ two_digits day) (IsAscii-two_digits _ (omega arith))
    (IsAscii-append (two_digits (year % 100)) (45 ∷ two_digits month ++ 45 ∷ two_digits day) (IsAscii-two_digits _ (omega arith)) later)

-- a day's text is UTF-8
pub IsUtf8-date_text : (day : ℤ) → IsDay day → IsUtf8 (date_text day)
IsUtf8-date_text day h =
    let d = date_of day in
    let good = good_date (unsigned_abs (day +ℤ pos 1)) in
    let long = days_in_month_bounds (pos d.year) d.month in
    IsUtf8-from_ascii _ (IsUtf8-date_parts d.year d.month d.day (year_bound day h) (omega (arith, good.month_high)) (omega (arith, good.day_high)))
