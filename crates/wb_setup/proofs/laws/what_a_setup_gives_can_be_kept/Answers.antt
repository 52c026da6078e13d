use Rattle.wb_setup.proofs.GivenLists.{setup_is_stored}
use Rattle.wb_setup.proofs.StoredJoined.{joined_are_stored}
use Rattle.wb_setup.proofs.laws.what_a_setup_gives_can_be_kept.Goals as goal

pub returns-clause-given : goal.returns-clause-given
returns-clause-given c = setup_is_stored

pub returns-clause-added : goal.returns-clause-added
returns-clause-added c = joined_are_stored
