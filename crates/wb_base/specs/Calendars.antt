-- On which day a term ends: where it would end on a Saturday, a Sunday or a holiday, it ends on the next day that is none (after Regulation (EEC, Euratom)
-- No 1182/71, Article 3(4)).
use Rattle.std.specs.Prelude.{◌==◌, ◌&&◌, ◌||◌, nat_le, Bool, true, false, if◌then◌else◌, List, [], ◌∷◌, length, fold, ℤ, pos, ◌+ℤ◌, int_lt}
use Rattle.std.specs.Ordering.{int_eq}
use Rattle.std.specs.List.{list_any}
use Rattle.jiff_core.specs.Calendar.{weekday_number}

-- whether terms roll, and the holidays
pub record Calendar : Type 0 where
  pub roll : Bool
  pub holidays : List ℤ

-- the calendar of a tenant that has none
abbrev pub plain : Calendar
plain = record { roll = false; holidays = [] }

-- the days ascend from above this one
abbrev pub ascend_from : ℤ → List ℤ → Bool
ascend_from k [] = true
ascend_from k (d ∷ ds) = int_lt k d && ascend_from d ds

abbrev pub ascend : List ℤ → Bool
ascend [] = true
ascend (d ∷ ds) = ascend_from d ds

-- at most 64 holidays, which ascend
abbrev pub are_holidays : List ℤ → Bool
are_holidays holidays = nat_le (length holidays) 64 && ascend holidays

-- the days of the week are numbered from 0, for Monday
abbrev pub is_weekend : ℤ → Bool
is_weekend day = nat_le 5 (weekday_number day)

-- no day on which a term ends
abbrev pub is_off : Calendar → ℤ → Bool
is_off calendar day = is_weekend day || list_any (λ h. int_eq h day) calendar.holidays

-- the day, or the Monday after a weekend
abbrev pub after_weekend : ℤ → ℤ
after_weekend day = if weekday_number day == 5 then day +ℤ pos 2 else if weekday_number day == 6 then day +ℤ pos 1 else day

-- the day, or what follows where it is this holiday
abbrev pub after_holiday : ℤ → ℤ → ℤ
after_holiday day holiday = if int_eq holiday day then after_weekend (holiday +ℤ pos 1) else day

-- the day on which a term ends: it is put off over a weekend, and then over each holiday on which it falls, in their order
abbrev pub end : Calendar → ℤ → ℤ
end calendar day = if calendar.roll then fold after_holiday (after_weekend day) calendar.holidays else day
