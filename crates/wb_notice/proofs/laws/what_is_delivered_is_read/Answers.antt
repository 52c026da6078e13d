use Rattle.wb_notice.proofs.Ranged.{box_read}
use Rattle.wb_notice.proofs.laws.what_is_delivered_is_read.Goals as goal

pub returns : goal.returns
returns c = box_read
