-- Days and their dates in the proleptic Gregorian calendar (ISO 8601). A day is a count of days since 1970-01-01.
use Rattle.std.specs.Prelude.{ℕ, zero, suc, ◌+◌, nat_lt, if◌then◌else◌, ℤ, pos, neg_ℤ, ◌+ℤ◌, ◌*ℤ◌, unsigned_abs}
use Rattle.std.specs.Int.{int_div_euclid}
use Rattle.jiff_core.specs.Calendar.{IsBetween, days_in_month}

-- a date
pub record CivilDate : Type 0 where
  pub year : ℕ
  pub month : ℕ
  pub day : ℕ

-- a day that the host has
abbrev pub IsDay : ℤ → Type 0
IsDay day = IsBetween (neg_ℤ (pos 1)) (pos 1_200_000) day

-- a day to which terms may be added
abbrev pub IsEarlyDay : ℤ → Type 0
IsEarlyDay day = IsBetween (neg_ℤ (pos 1)) (pos 1_190_000) day

-- an offset from UTC in minutes that a tenant may have
abbrev pub IsOffset : ℤ → Type 0
IsOffset offset = IsBetween (neg_ℤ (pos 720)) (pos 840) offset

-- the day of a moment, in seconds since 1970-01-01 00:00 UTC, at an offset from UTC in minutes
abbrev pub day_of : ℕ → ℤ → ℤ
day_of moment offset = int_div_euclid (pos moment +ℤ pos 60 *ℤ offset) (pos 86_400)

-- the date after a date
abbrev pub next_date : CivilDate → CivilDate
next_date d =
    if nat_lt d.day (days_in_month (pos d.year) d.month) then record d { day = d.day + 1 }
    else if nat_lt d.month 12 then record d { month = d.month + 1; day = 1 }
    else record { year = d.year + 1; month = 1; day = 1 }

-- the date n days after 1969-12-31
unfoldable pub date_at : ℕ → CivilDate
date_at zero = record { year = 1969; month = 12; day = 31 }
date_at (suc n) = next_date (date_at n)

-- the date of a day from -1 on
abbrev pub date_of : ℤ → CivilDate
date_of day = date_at (unsigned_abs (day +ℤ pos 1))
