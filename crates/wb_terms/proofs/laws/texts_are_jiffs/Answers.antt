-- The lemma on texts is the law.
use Rattle.wb_terms.proofs.JiffWords.{date_text-jiff}
use Rattle.wb_terms.proofs.laws.texts_are_jiffs.Goals as goal

pub returns : goal.returns
returns c = date_text-jiff
