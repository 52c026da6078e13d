use Rattle.wb_model.proofs.InOrder.{past_ordered}
use Rattle.wb_model.proofs.laws.what_is_set_stands_in_order.Goals as goal

pub returns : goal.returns
returns c = past_ordered
