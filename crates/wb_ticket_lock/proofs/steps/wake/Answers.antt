use Rattle.std.proofs.Common.{arith}
use Rattle.wb_ticket_lock.proofs.Allowed.{writes_wait_word}
use Rattle.wb_ticket_lock.proofs.steps.wake.Goals as goal

pub swap-requires : goal.swap-requires
swap-requires g c = (c.requires.here.0, omega (arith, c.requires.here.1, c.wait_word_of-word.ensures.1), writes_wait_word _ _ _ _ _ _ _ 0 c.wait_word_of-word.ensures.0)
