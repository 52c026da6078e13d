use Rattle.wb_rows.proofs.TablesBack.{tables-back}
use Rattle.wb_rows.proofs.laws.what_is_written_is_read.Goals as goal

pub returns : goal.returns
returns c = tables-back
