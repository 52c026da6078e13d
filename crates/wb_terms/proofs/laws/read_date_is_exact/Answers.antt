-- The lemmas on texts that read are the law.
use Rattle.wb_terms.proofs.ReadExactly.{date_text-read_date, read_date-bounds}
use Rattle.wb_terms.proofs.laws.read_date_is_exact.Goals as goal

pub returns-clause-text : goal.returns-clause-text
returns-clause-text c = date_text-read_date

pub returns-clause-bounds : goal.returns-clause-bounds
returns-clause-bounds c = read_date-bounds
