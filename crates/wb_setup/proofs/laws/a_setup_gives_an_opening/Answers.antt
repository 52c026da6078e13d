use Rattle.wb_setup.proofs.GivenLists.{setup_is_set_up}
use Rattle.wb_setup.proofs.laws.a_setup_gives_an_opening.Goals as goal

pub returns : goal.returns
returns c = setup_is_set_up
