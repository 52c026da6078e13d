use Rattle.wb_rows.proofs.OpeningsReadable.{opening-readable}
use Rattle.wb_rows.proofs.laws.openings_are_read_back.Goals as goal

pub returns : goal.returns
returns c = opening-readable
