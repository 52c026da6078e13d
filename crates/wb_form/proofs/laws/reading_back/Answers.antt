use Rattle.wb_form.proofs.Good.{back-good, faultless-back}
use Rattle.wb_form.proofs.laws.reading_back.Goals as goal

pub returns-clause-back : goal.returns-clause-back
returns-clause-back c = back-good

pub returns-clause-faultless : goal.returns-clause-faultless
returns-clause-faultless c = faultless-back
