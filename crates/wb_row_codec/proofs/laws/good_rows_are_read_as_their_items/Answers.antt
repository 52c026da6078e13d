use Rattle.wb_row_codec.proofs.GoodRows.{item-back}
use Rattle.wb_row_codec.proofs.laws.good_rows_are_read_as_their_items.Goals as goal

pub returns : goal.returns
returns c = item-back
