use Rattle.std.proofs.Common.{[]}
use Rattle.wb_export.proofs.forecasts.line_of.Goals as goal

pub returns : goal.returns
returns c =
    let number = c.in_ok-add_number.ensures [] (record { all = c.new-line.ensures.fields; ended = c.new-line.ensures.partial }) in
    rw c.get.ensures.value at (c.in_ok-add_day.ensures _ number)
