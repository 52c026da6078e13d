use Rattle.wb_model.proofs.Purged.{gone_held}
use Rattle.wb_model.proofs.AbsentOpenings.{absent_there, absent_live, absent_replies, absent_hosts, absent_tables, absent_unheld, absent_reopened, absent_first, absent_rows, absent_first_rows}
use Rattle.wb_model.proofs.laws.absence_over_openings.Goals as goal

pub returns-clause-there : goal.returns-clause-there
returns-clause-there c = absent_there

pub returns-clause-live : goal.returns-clause-live
returns-clause-live c = absent_live

pub returns-clause-replies : goal.returns-clause-replies
returns-clause-replies c = absent_replies

pub returns-clause-hosts : goal.returns-clause-hosts
returns-clause-hosts c = absent_hosts

pub returns-clause-tables : goal.returns-clause-tables
returns-clause-tables c = absent_tables

pub returns-clause-purged : goal.returns-clause-purged
returns-clause-purged c = absent_unheld

pub returns-clause-gone : goal.returns-clause-gone
returns-clause-gone c = gone_held

pub returns-clause-again : goal.returns-clause-again
returns-clause-again c = absent_reopened

pub returns-clause-first : goal.returns-clause-first
returns-clause-first c = absent_first

pub returns-clause-rows : goal.returns-clause-rows
returns-clause-rows c = absent_rows

pub returns-clause-first_rows : goal.returns-clause-first_rows
returns-clause-first_rows c = absent_first_rows
