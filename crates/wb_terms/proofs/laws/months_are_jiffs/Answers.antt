-- The lemma on months is the law.
use Rattle.wb_terms.proofs.JiffWords.{add_months-months_later}
use Rattle.wb_terms.proofs.laws.months_are_jiffs.Goals as goal

pub returns : goal.returns
returns c = add_months-months_later
