use Rattle.wb_model.proofs.OneOpening.{one_opening}
use Rattle.wb_model.proofs.laws.an_opening_is_told_by_its_tables.Goals as goal

pub returns : goal.returns
returns c = one_opening
