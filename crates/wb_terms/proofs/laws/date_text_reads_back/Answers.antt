-- The lemma on reading back is the law.
use Rattle.wb_terms.proofs.ReadBack.{read_date-date_text}
use Rattle.wb_terms.proofs.laws.date_text_reads_back.Goals as goal

pub returns : goal.returns
returns c = λ day h. read_date-date_text day h.0 h.1
