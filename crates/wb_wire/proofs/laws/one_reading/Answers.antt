use Rattle.wb_wire.proofs.ReadingLemmas.{one_reading, one_closing}
use Rattle.wb_wire.proofs.laws.one_reading.Goals as goal

pub returns : goal.returns
returns c = record { reading = one_reading; closing = one_closing }
