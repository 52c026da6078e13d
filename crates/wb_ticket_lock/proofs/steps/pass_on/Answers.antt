use Rattle.std.proofs.Common.{arith}
use Rattle.wb_ticket_lock.proofs.Allowed.{passes_on}
use Rattle.wb_ticket_lock.proofs.steps.pass_on.Goals as goal

pub fetch_add-requires : goal.fetch_add-requires
fetch_add-requires g c =
    let turn = c.requires.turn in (
      c.requires.here.0,
      omega (arith, c.requires.here.1),
      passes_on _ _ _ _ _ c.args.seat.now.me c.args.ticket turn.0 turn.1 turn.2 c.requires.mine.0 c.requires.mine.1 turn.4 turn.3 turn.5 turn.6 turn.7,
    )

pub returns-clause-entry : goal.returns-clause-entry
returns-clause-entry g c =
    let turn = c.requires.turn in
    let told = c.fetch_add.ensures.2 c.args.ticket turn.0 turn.1 turn.2 c.requires.mine.0 turn.4 turn.5 turn.6 in
    (turn.0, turn.1, turn.2, turn.4, turn.5, turn.6, told.1)

pub returns-clause-above : goal.returns-clause-above
returns-clause-above g c =
    let turn = c.requires.turn in
    (c.fetch_add.ensures.2 c.args.ticket turn.0 turn.1 turn.2 c.requires.mine.0 turn.4 turn.5 turn.6).2
