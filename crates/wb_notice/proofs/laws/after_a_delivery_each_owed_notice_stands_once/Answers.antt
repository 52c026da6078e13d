use Rattle.wb_notice.proofs.Boxes.{all_stand, box_ascends, box_lives, box_same}
use Rattle.wb_notice.proofs.laws.after_a_delivery_each_owed_notice_stands_once.Goals as goal

pub returns : goal.returns
returns c = record { stand = all_stand; once = box_ascends; live = box_lives; same = box_same }
