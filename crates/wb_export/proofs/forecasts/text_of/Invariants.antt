use Rattle.std.proofs.Common.{◌∷◌, Some, map, take}
use Rattle.wb_export.specs.Csv.{HasWritten}
use Rattle.wb_export.specs.Forecasts.{forecast_header, forecast_line}
use Rattle.wb_export.proofs.forecasts.text_of.Given as goal

abbrev pub invariant-loop-row : goal.invariant-loop-row
invariant-loop-row l = HasWritten (λ v. Some v.items) l.lines (forecast_header ∷ map forecast_line (take l.row-index l.rows))
