use Rattle.wb_model.proofs.Converted.{rows_become}
use Rattle.wb_model.proofs.laws.rows_become_those_of_format_2.Goals as goal

pub returns : goal.returns
returns c = rows_become
