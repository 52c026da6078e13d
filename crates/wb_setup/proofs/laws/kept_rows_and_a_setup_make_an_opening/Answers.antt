use Rattle.wb_setup.proofs.OtherLists.{joined_are_set_up}
use Rattle.wb_setup.proofs.laws.kept_rows_and_a_setup_make_an_opening.Goals as goal

pub returns : goal.returns
returns c = joined_are_set_up
