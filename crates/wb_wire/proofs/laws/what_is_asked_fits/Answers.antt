use Rattle.wb_wire.proofs.ReadingLemmas.{reads_fit}
use Rattle.wb_wire.proofs.laws.what_is_asked_fits.Goals as goal

pub returns : goal.returns
returns c = reads_fit c.good_forms_are_those_that_are_read.ensures.good c.answers_that_are_read_stand_in_order.ensures.member
