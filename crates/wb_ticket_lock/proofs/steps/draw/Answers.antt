use Rattle.std.proofs.Common.{◌∙◌, ap, arith}
use Rattle.std.specs.Prelude.{Option}
use Rattle.atomic_table.specs.Table.{Me}
use Rattle.wb_ticket_lock.specs.declared.entry.View.{View}
use Rattle.wb_ticket_lock.specs.Contents.{Content}
use Rattle.wb_ticket_lock.proofs.Allowed.{asks, draws}
use Rattle.wb_ticket_lock.proofs.steps.draw.Goals as goal

pub load-asked-requires : goal.load-asked-requires
load-asked-requires g c = (c.requires.here.0, omega (arith, c.requires.here.1), asks _ _ _ _ _ _)

pub compare_exchange-found-requires : goal.compare_exchange-found-requires
compare_exchange-found-requires g c =
    let same = c.load-asked.ensures.2 in
    let free = c.requires.free in
    let parts = ap (λ (m : Me (Option (Content g.row.T.Denot g.row.D.Denot)) (View g.row.T.Denot g.row.D.Denot)). m.0.parts) same in (
      c.load-asked.ensures.0 ∙ c.requires.here.0,
      omega (arith, c.requires.here.1),
      draws _ _ _ _ _ c.load-asked.new.seat.me c.load-asked.result (ap (λ (m : Me (Option (Content g.row.T.Denot g.row.D.Denot)) (View g.row.T.Denot g.row.D.Denot)). m.1) same ∙ free.3) (ap (λ (m : Me (Option (Content g.row.T.Denot g.row.D.Denot)) (View g.row.T.Denot g.row.D.Denot)). m.0.tickets) same ∙ free.1)
          (ap (λ (m : Me (Option (Content g.row.T.Denot g.row.D.Denot)) (View g.row.T.Denot g.row.D.Denot)). m.0.turn) same ∙ free.2) (omega (arith, parts, free.0)) (omega arith),
    )
