use Rattle.wb_model.proofs.Unchanged.{refused_reply, refused_host, refused_hosts, refused_past, refused_rows}
use Rattle.wb_model.proofs.laws.a_refusal_changes_nothing_else.Goals as goal

pub returns-clause-reply : goal.returns-clause-reply
returns-clause-reply c = refused_reply

pub returns-clause-host : goal.returns-clause-host
returns-clause-host c = refused_host

pub returns-clause-hosts : goal.returns-clause-hosts
returns-clause-hosts c = refused_hosts

pub returns-clause-past : goal.returns-clause-past
returns-clause-past c = refused_past

pub returns-clause-rows : goal.returns-clause-rows
returns-clause-rows c = refused_rows
