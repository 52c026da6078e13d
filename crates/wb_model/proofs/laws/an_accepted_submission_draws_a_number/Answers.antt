use Rattle.wb_model.proofs.Draws.{loss_draws}
use Rattle.wb_model.proofs.laws.an_accepted_submission_draws_a_number.Goals as goal

pub returns : goal.returns
returns c = loss_draws
