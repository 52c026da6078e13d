use Rattle.wb_rows.proofs.LeftHosts.{holds_left}
use Rattle.wb_rows.proofs.LeftRows.{past_good, past_rows, past_judged}
use Rattle.wb_rows.proofs.laws.what_hosts_leave_is_read.Goals as goal

pub returns-clause-good : goal.returns-clause-good
returns-clause-good c = past_good

pub returns-clause-rows : goal.returns-clause-rows
returns-clause-rows c = past_rows

pub returns-clause-read : goal.returns-clause-read
returns-clause-read c = past_judged

pub returns-clause-left : goal.returns-clause-left
returns-clause-left c = holds_left
