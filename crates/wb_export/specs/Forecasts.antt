-- What expires by a day.
use Rattle.std.specs.Prelude.{◌≡◌, ◌==◌, ◌&&◌, ℕ, ℤ, Bool, not, int_lt, List, [], ◌∷◌, map, filter, codes, decimal}
use Rattle.std.specs.List.{list_any}
use Rattle.std.specs.List.Sorted.{IsSortedBy}
use Rattle.std.specs.Ordering.{int_eq}
use Rattle.wb_base.specs.DateTexts.{date_text}
use Rattle.wb_base.specs.Days.{day_of}
use Rattle.wb_model.specs.declared.event.What.TheVariants.{Idle}
use Rattle.wb_model.specs.Opened.{Opened}
use Rattle.wb_model.specs.Past.{Past, Turn, held}
use Rattle.wb_model.specs.Requests.{Frame}
use Rattle.wb_model.specs.Tables.{Case}
use Rattle.wb_model.specs.Trails.{expires}
use Rattle.wb_export.specs.Csv.{CsvLine, csv_text}
use Rattle.wb_export.specs.declared.forecasts.Expiring.{Expiring}

-- the expiry of a report is this day or before
abbrev pub expires_by : ℤ → Case → Bool
expires_by day c = not (int_lt day (expires c.trail))

abbrev pub expiring : Case → Expiring
expiring c = record { number = c.number; expires = expires c.trail }

abbrev pub expires_before : Expiring → Expiring → Bool
expires_before x y = int_lt x.expires y.expires

abbrev pub expires_on : ℤ → Expiring → Bool
expires_on day x = int_eq x.expires day

-- the reports that expire by a day, by expiry, and of each day in the order in which they stand, which is that of their numbers where the tables are
-- those of kept rows
pub record IsForecast (day : ℤ) (cases : List Case) (found : List Expiring) : Type 0 where
  pub by_expiry : IsSortedBy expires_before found
  pub of_each_day : (d : ℤ) → filter (expires_on d) found ≡ filter (expires_on d) (map expiring (filter (expires_by day) cases))

abbrev pub forecast_header : CsvLine
forecast_header = codes "number" ∷ codes "expires" ∷ []

abbrev pub forecast_line : Expiring → CsvLine
forecast_line x = decimal x.number ∷ date_text x.expires ∷ []

abbrev pub forecast_text : List Expiring → List ℕ
forecast_text found = csv_text (forecast_header ∷ map forecast_line found)

-- the tenant's day of a frame's moment
abbrev pub day_at : Past Opened → Frame → ℤ
day_at past f = day_of f.moment (held past).plain.registry.settings.offset

-- a turn that changes nothing, with the moment and the words of a frame
abbrev pub after_idle : Past Opened → Frame → Past Opened
after_idle past f = Turn (record { moment = f.moment; words = f.words; what = Idle }) past

-- a row of a forecast names a report: its number and its expiry
abbrev pub names : Case → Expiring → Bool
names c x = (x.number == c.number) && expires_on (expires c.trail) x

-- the reports that no row of a forecast names
abbrev pub without : List Expiring → List Case → List Case
without found cases = filter (λ c. not (list_any (names c) found)) cases
