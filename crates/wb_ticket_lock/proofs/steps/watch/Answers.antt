use Rattle.std.proofs.Common.{◌∙◌, ap}
use Rattle.std.specs.Prelude.{Option}
use Rattle.atomic_table.specs.Table.{Me}
use Rattle.wb_ticket_lock.specs.declared.entry.View.{View}
use Rattle.wb_ticket_lock.specs.Contents.{Content}
use Rattle.wb_ticket_lock.proofs.Allowed.{at_turn}
use Rattle.wb_ticket_lock.proofs.steps.watch.Goals as goal

pub returns-then-look-clause-turn : goal.returns-then-look-clause-turn
returns-then-look-clause-turn g c =
    let hit = c.if-look.ensures.turn in
    (hit.0, hit.1, hit.2 ∙ ap (λ (m : Me (Option (Content g.row.T.Denot g.row.D.Denot)) (View g.row.T.Denot g.row.D.Denot)). at_turn m.0 c.args.ticket hit.0) c.loop.invariant.2)
