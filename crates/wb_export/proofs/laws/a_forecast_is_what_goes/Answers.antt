use Rattle.wb_export.proofs.Going.{goes}
use Rattle.wb_export.proofs.laws.a_forecast_is_what_goes.Goals as goal

pub returns : goal.returns
returns c = goes
