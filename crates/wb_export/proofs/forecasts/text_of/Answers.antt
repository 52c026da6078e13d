use Rattle.std.proofs.Common.{◌∷◌, Some, ap, ◌∙◌, subst}
use Rattle.wb_export.specs.Csv.{HasWritten, csv_text}
use Rattle.wb_export.specs.Forecasts.{forecast_header, forecast_line}
use Rattle.wb_export.proofs.LineLemmas.{next_line, all_lines}
use Rattle.wb_export.proofs.forecasts.text_of.Goals as goal

pub loop-row-preserved : goal.loop-row-preserved
loop-row-preserved c =
    let more = c.in_ok-put.ensures _ (forecast_line c.row-item.result) c.loop-row.invariant c.in_ok-line_of.ensures in
    subst (λ ls. HasWritten (λ v. Some v.items) c.put-in-loop-row.new.lines (forecast_header ∷ ls)) (next_line forecast_line c.args.rows.now c.loop-row.row-index c.row-item.result c.loop-row-test.true c.row-item.is) more

pub returns : goal.returns
returns c = c.in_ok-end.ensures _ c.loop-row.invariant ∙ ap (λ ls. csv_text (forecast_header ∷ ls)) (all_lines forecast_line c.args.rows.now c.loop-row.row-index c.loop-row-test.false)
