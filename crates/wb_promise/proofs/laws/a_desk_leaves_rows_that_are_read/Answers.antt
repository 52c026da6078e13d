use Rattle.wb_promise.proofs.LeftRows.{left_are_read}
use Rattle.wb_promise.proofs.laws.a_desk_leaves_rows_that_are_read.Goals as goal

pub returns : goal.returns
returns c = left_are_read c.what_hosts_leave_is_read.ensures.read
