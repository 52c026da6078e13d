use Rattle.wb_model.proofs.Reopenings.{left_opened, tenants_ascend, reopened_hosts, reopened_rows}
use Rattle.wb_model.proofs.LeftTimes.{left_before}
use Rattle.wb_model.proofs.laws.a_host_opens_again.Goals as goal

pub returns-clause-opened : goal.returns-clause-opened
returns-clause-opened c = left_opened

pub returns-clause-time : goal.returns-clause-time
returns-clause-time c = left_before

pub returns-clause-tenants : goal.returns-clause-tenants
returns-clause-tenants c = tenants_ascend

pub returns-clause-hosts : goal.returns-clause-hosts
returns-clause-hosts c = reopened_hosts

pub returns-clause-rows : goal.returns-clause-rows
returns-clause-rows c = reopened_rows
