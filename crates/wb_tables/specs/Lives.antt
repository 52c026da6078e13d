-- A report as it is kept, and the days on which it lives.
use Rattle.std.specs.Prelude.{ℕ, ℤ, ◌==◌, ◌&&◌, not, int_lt, Bool, List, [], ◌∷◌, length, IfSome}
use Rattle.std.specs.List.{list_any}
use Rattle.wb_base.specs.Days.{IsEarlyDay}
use Rattle.wb_model.specs.declared.entry.Entry.{Entry}
use Rattle.wb_model.specs.Tables.{Case, has_number}
use Rattle.wb_model.specs.Trails.{acknowledged, expires, received}
use Rattle.wb_tables.specs.declared.tenancy.Report.{Report}

abbrev pub case_of : Report → Case
case_of r = record { number = r.number; trail = r.case.items }

-- a report has a trail and expires after this day
abbrev pub lives_on : ℤ → Case → Bool
lives_on today c = not (length c.trail == 0) && int_lt today (expires c.trail)

-- the report of a number is there, and does not live on this day
abbrev pub is_dead : ℕ → ℤ → List Case → Bool
is_dead n today cs = list_any (λ c. has_number n c && not (lives_on today c)) cs

-- the days of a trail from which terms are counted are days of moments
abbrev pub HasEarlyDays : List Entry → Type 0
HasEarlyDays trail = IsEarlyDay (received trail) × IfSome (acknowledged trail) IsEarlyDay

-- so it is of each report
abbrev pub AreEarly : List Case → Type 0
AreEarly [] = Unit {0}
AreEarly (c ∷ cs) = HasEarlyDays c.trail × AreEarly cs
