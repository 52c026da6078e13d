-- The terms of a report (Directive (EU) 2019/1937, Article 9(1)(b) and (f), and Article 11(2)(d)).
use Rattle.std.specs.Prelude.{ℕ, ◌+◌, ◌-◌, ◌*◌, ◌/◌, ◌%◌, min, Bool, if◌then◌else◌, Option, unwrap_or, ℤ, pos, ◌+ℤ◌}
use Rattle.jiff_core.specs.Calendar.{days_in_month, days_from_civil}
use Rattle.wb_base.specs.Days.{CivilDate, date_of}
use Rattle.wb_base.specs.Calendars.{Calendar, end}

-- the day k months after a date: the same day of the month, or the month's last where it lacks that day
abbrev pub months_after : ℕ → CivilDate → ℤ
months_after k d = let month = d.year * 12 + (d.month - 1) + k in
    days_from_civil (pos (month / 12)) (month % 12 + 1) (min d.day (days_in_month (pos (month / 12)) (month % 12 + 1)))

-- the day k months after a day
abbrev pub months_later : ℕ → ℤ → ℤ
months_later k day = months_after k (date_of day)

-- receipt is acknowledged within seven days of that receipt
abbrev pub ack_due : ℤ → Calendar → ℤ
ack_due received calendar = end calendar (received +ℤ pos 7)

-- feedback comes within three months, or within six where that was extended (Article 11(2)(d))
abbrev pub feedback_months : Bool → ℕ
feedback_months extended = if extended then 6 else 3

-- these are counted from the acknowledgement, or from the end of the seven days where there is none
abbrev pub feedback_due : ℤ → Option ℤ → Bool → Calendar → ℤ
feedback_due received acknowledged extended calendar = end calendar (months_later (feedback_months extended) (unwrap_or acknowledged (received +ℤ pos 7)))

-- a report expires so many days after a day
abbrev pub expiry : ℤ → ℕ → ℤ
expiry from retention = from +ℤ pos retention
