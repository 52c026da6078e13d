use Rattle.std.proofs.Common.{◌∙◌, sym, ap, ℕ, List, ◌∷◌}
use Rattle.std.specs.Prelude.{Option, Some}
use Rattle.atomic_table.specs.Table.{rest}
use Rattle.wb_ticket_lock.specs.Contents.{Content}
use Rattle.wb_ticket_lock.proofs.Allowed.{slot_is}
use Rattle.wb_ticket_lock.proofs.steps.take_out.Goals as goal

pub exchange-found-requires : goal.exchange-found-requires
exchange-found-requires g c =
    let turn = c.requires.turn in
    (c.requires.here.0, (Some turn.0, turn.1 ∙ ap (λ (l : List (ℕ × Option (Content g.row.T.Denot g.row.D.Denot))). (0, Some turn.0) ∷ rest l) (sym turn.1)))

pub returns-clause-value : goal.returns-clause-value
returns-clause-value g c =
    let turn = c.requires.turn in
    (turn.0, turn.1, ap (λ (f : Content g.row.T.Denot g.row.D.Denot). f.value) (slot_is _ _ turn.0 _ c.exchange-found.ensures.2 (c.in-Some.is ∙ ap (λ (f : Content g.row.T.Denot g.row.D.Denot). Some f) (sym c.guarded.view_is)) turn.1))
