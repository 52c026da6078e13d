use Rattle.wb_ticket.proofs.Follows.{follows}
use Rattle.wb_ticket.proofs.laws.a_history_is_a_script.Goals as goal

pub returns : goal.returns
returns c = λ first last es h start stands. follows 0 first es last h start stands
