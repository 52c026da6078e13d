use Rattle.wb_model.proofs.LossesTold.{all_told}
use Rattle.wb_model.proofs.laws.losses_are_told.Goals as goal

pub returns : goal.returns
returns c = all_told
