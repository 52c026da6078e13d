use Rattle.std.proofs.Common.{arith}
use Rattle.wb_ticket_lock.proofs.Allowed.{looks}
use Rattle.wb_ticket_lock.proofs.steps.look.Goals as goal

pub load-requires : goal.load-requires
load-requires g c =
    let waits = c.requires.waits in
    (c.requires.here.0, omega (arith, c.requires.here.1), looks _ _ _ _ _ c.args.seat.now.me c.args.ticket waits.2 waits.0 waits.1)

pub returns-clause-turn : goal.returns-clause-turn
returns-clause-turn g c = c.load.ensures.2 c.args.ticket c.requires.waits.0
