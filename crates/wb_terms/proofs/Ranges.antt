-- Days that the host's calls count are in range.
use Rattle.std.proofs.Common.{◌≡◌, ℕ, ◌≤◌, refl, ℤ, pos, ◌+ℤ◌, ◌≤ℤ◌, w32, w64, to_z, of_z, arith}
use Rattle.jiff_core.specs.declared.civil.date.Date.{Date}
use Rattle.jiff_core.specs.Calendar.{IsBetween, day_count, days_of_years, days_of_months, days_from_civil}
use Rattle.jiff_core.specs.Date.{epoch_day}
use Rattle.jiff_core.proofs.SignedLemmas.{signed_arith, signed_casts}
use Rattle.jiff_core.proofs.CalendarLemmas.{days_from_civil-day_count, day_count-lt_year}
use Rattle.wb_base.specs.Days.{IsDay, IsEarlyDay, IsOffset, day_of}

-- a day is kept by a cast to 32 bits
pub day_cast : (z : ℤ) → IsDay z → to_z w32 (of_z w32 z) ≡ z
day_cast z h = omega (arith, signed_casts)

-- .. and by casts to 64 bits and then 32
pub day_casts : (z : ℤ) → IsDay z → to_z w32 (of_z w32 (to_z w64 (of_z w64 z))) ≡ z
day_casts z h = omega (arith, signed_casts)

-- the day of a moment is a day
pub IsDay-day_of : (moment : ℕ) (offset : ℤ) → moment ≤ 99_999_999_999 → IsOffset offset → IsDay (day_of moment offset)
IsDay-day_of moment offset high h = (omega (arith, signed_arith), omega (arith, signed_arith))

-- .. and one to which terms may be added
pub IsEarlyDay-day_of : (moment : ℕ) (offset : ℤ) → moment ≤ 99_999_999_999 → IsOffset offset → IsEarlyDay (day_of moment offset)
IsEarlyDay-day_of moment offset high h = (omega (arith, signed_arith), omega (arith, signed_arith))

known_1969 : days_from_civil (pos 1969) 12 31 +ℤ pos 1 ≡ pos 0
unfolding days_from_civil day_count days_of_years days_of_months
known_1969 = refl

known_5200 : days_from_civil (pos 5200) 1 1 ≡ pos 1_179_733
unfolding days_from_civil day_count days_of_years days_of_months
known_5200 = refl

-- a date of the years 1970 to 5199 is one of the days from 1970-01-01 to 5199-12-31
pub epoch_day_bounds : (a : Date) → pos 1970 ≤ℤ a.year → a.year ≤ℤ pos 5199 → IsBetween (pos 0) (pos 1_179_732) (epoch_day a)
epoch_day_bounds a low high =
    let after = day_count-lt_year (pos 1969) 12 31 a.year a.month a.day ((omega (arith, signed_arith), omega (arith, signed_arith)), (omega arith, omega arith), (omega arith, omega arith)) a.day_in.0 (omega (arith, signed_arith)) in
    let before = day_count-lt_year a.year a.month a.day (pos 5200) 1 1 (a.year_in, a.month_in, a.day_in) (omega arith) (omega (arith, signed_arith)) in
    (omega (arith, signed_arith, days_from_civil-day_count, known_1969, after), omega (arith, signed_arith, days_from_civil-day_count, known_5200, before))

-- .. and so a day of the host
pub IsDay-epoch_day : (a : Date) → pos 1970 ≤ℤ a.year → a.year ≤ℤ pos 5199 → IsDay (epoch_day a)
IsDay-epoch_day a low high =
    let bounds = epoch_day_bounds a low high in
    (omega (arith, signed_arith, bounds.0), omega (arith, signed_arith, bounds.1))
