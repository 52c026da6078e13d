use Rattle.wb_model.proofs.Numberings.{numbered}
use Rattle.wb_model.proofs.laws.a_numbering_is_left_by_draws.Goals as goal

pub returns : goal.returns
returns c = numbered
