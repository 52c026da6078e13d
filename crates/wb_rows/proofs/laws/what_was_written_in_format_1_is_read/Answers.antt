use Rattle.wb_rows.proofs.TablesBack.{old-back}
use Rattle.wb_rows.proofs.laws.what_was_written_in_format_1_is_read.Goals as goal

pub returns : goal.returns
returns c = old-back
