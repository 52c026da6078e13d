use Rattle.wb_promise.proofs.OneStart.{one_start}
use Rattle.wb_promise.proofs.laws.kept_rows_and_a_setup_open_one_past.Goals as goal

pub returns : goal.returns
returns c = one_start c.an_opening_is_told_by_its_tables.ensures
