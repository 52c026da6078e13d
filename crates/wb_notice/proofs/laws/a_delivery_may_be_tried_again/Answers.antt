use Rattle.wb_notice.proofs.Boxes.{box_again, each_made, tried}
use Rattle.wb_notice.proofs.laws.a_delivery_may_be_tried_again.Goals as goal

pub returns : goal.returns
returns c = record { each = each_made; again = box_again; tries = tried }
