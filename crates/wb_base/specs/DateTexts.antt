-- Dates as texts `YYYY-MM-DD` (ISO 8601, calendar date in extended format).
use Rattle.std.specs.Prelude.{ℕ, ◌+◌, ◌-◌, ◌*◌, ◌/◌, ◌%◌, ◌==◌, ◌&&◌, nat_le, Bool, if◌then◌else◌, List, [], ◌∷◌, ◌++◌, Option, Some, None, option_and_then, length, slice_index, ℤ, pos}
use Rattle.std.specs.Char.{is_ascii_digit}
use Rattle.jiff_core.specs.Calendar.{days_in_month, days_from_civil}
use Rattle.wb_base.specs.Days.{CivilDate, date_of}

-- a number below 100 in two digits
abbrev pub two_digits : ℕ → List ℕ
two_digits n = (48 + n / 10) ∷ (48 + n % 10) ∷ []

-- the text of a day's date
abbrev pub date_text : ℤ → List ℕ
date_text day = let d = date_of day in
    two_digits (d.year / 100) ++ two_digits (d.year % 100) ++ 45 ∷ two_digits d.month ++ 45 ∷ two_digits d.day

-- the number of two bytes, if they are digits
abbrev pub number_of : ℕ → ℕ → Option ℕ
number_of a b = if is_ascii_digit a && is_ascii_digit b then Some ((a - 48) * 10 + (b - 48)) else None

-- the number of the two bytes of a text at a place, if they are digits
abbrev pub number_at : ℕ → List ℕ → Option ℕ
number_at i text = number_of (slice_index text i) (slice_index text (i + 1))

-- a date of the years 1970 to 5199 that the calendar has
abbrev pub is_real : CivilDate → Bool
is_real d = nat_le 1970 d.year && nat_le d.year 5199 && nat_le 1 d.month && nat_le d.month 12
    && nat_le 1 d.day && nat_le d.day (days_in_month (pos d.year) d.month)

-- the day of a date, if it is real
abbrev pub day_if_real : CivilDate → Option ℤ
day_if_real d = if is_real d then Some (days_from_civil (pos d.year) d.month d.day) else None

-- the day that a text names, if it is ten bytes `YYYY-MM-DD` and a real date
unfoldable pub read_date : List ℕ → Option ℤ
read_date t = if (length t == 10) && (slice_index t 4 == 45) && (slice_index t 7 == 45) then
    option_and_then (λ century. option_and_then (λ year. option_and_then (λ month. option_and_then (λ day.
    day_if_real (record { year = century * 100 + year; month = month; day = day }))
    (number_at 8 t)) (number_at 5 t)) (number_at 2 t)) (number_at 0 t) else None
