use Rattle.wb_wire.proofs.OneFrameLemmas.{one_frame}
use Rattle.wb_wire.proofs.laws.one_frame.Goals as goal

pub returns : goal.returns
returns c = one_frame
