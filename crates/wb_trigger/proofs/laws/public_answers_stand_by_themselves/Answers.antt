use Rattle.wb_trigger.proofs.PublicLemmas.{public_right, public-twice, marked-public, sealed-public}
use Rattle.wb_trigger.proofs.laws.public_answers_stand_by_themselves.Goals as goal

pub returns-clause-right : goal.returns-clause-right
returns-clause-right c = public_right

pub returns-clause-same : goal.returns-clause-same
returns-clause-same c = public-twice

pub returns-clause-unmarked : goal.returns-clause-unmarked
returns-clause-unmarked c = marked-public

pub returns-clause-none_sealed : goal.returns-clause-none_sealed
returns-clause-none_sealed c = sealed-public
