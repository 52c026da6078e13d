use Rattle.std.proofs.Common.{ap}
use Rattle.std.specs.Prelude.{Option}
use Rattle.atomic_table.specs.Table.{Me}
use Rattle.wb_ticket_lock.specs.declared.entry.View.{View}
use Rattle.wb_ticket_lock.specs.Contents.{Content}
use Rattle.wb_ticket_lock.proofs.steps.acquire.Goals as goal

pub take_out-requires-clause-turn : goal.take_out-requires-clause-turn
take_out-requires-clause-turn g c =
    let turn = c.wait_turn.ensures.turn in
    (turn.0, ap (λ (m : Me (Option (Content g.row.T.Denot g.row.D.Denot)) (View g.row.T.Denot g.row.D.Denot)). m.1) turn.2)
