use Rattle.wb_model.proofs.OneHost.{same_replies, same_end}
use Rattle.wb_model.proofs.laws.a_host_is_all_that_is_told_of_its_past.Goals as goal

pub returns-clause-replies : goal.returns-clause-replies
returns-clause-replies c = same_replies

pub returns-clause-hosts : goal.returns-clause-hosts
returns-clause-hosts c = same_end
