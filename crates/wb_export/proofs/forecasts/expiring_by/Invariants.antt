use Rattle.std.proofs.Common.{◌≡◌, ◌++◌, drop, map, filter}
use Rattle.wb_rows.specs.Reports.{case_report}
use Rattle.wb_rows.specs.Openings.{cases_of}
use Rattle.wb_export.specs.Forecasts.{expires_by, expiring}
use Rattle.wb_export.proofs.forecasts.expiring_by.Given as goal

abbrev pub invariant-loop-item : goal.invariant-loop-item
invariant-loop-item l = l.rows.items ++ map expiring (filter (expires_by l.day) (cases_of (map case_report (drop l.item-index l.cases)) l.tenant)) ≡ map expiring (filter (expires_by l.day) (cases_of (map case_report l.cases) l.tenant))
