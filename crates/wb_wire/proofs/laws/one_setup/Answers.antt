use Rattle.wb_wire.proofs.SetupLemmas.{one_setup}
use Rattle.wb_wire.proofs.laws.one_setup.Goals as goal

pub returns : goal.returns
returns c = one_setup
