use Rattle.std.proofs.Common.{◌∙◌, refl, ap}
use Rattle.std.specs.Prelude.{Option}
use Rattle.atomic_table.specs.Table.{Me}
use Rattle.wb_ticket_lock.specs.declared.entry.View.{View}
use Rattle.wb_ticket_lock.specs.Contents.{Content}
use Rattle.wb_ticket_lock.proofs.steps.release.Goals as goal

pub pass_on-requires-clause-turn : goal.pass_on-requires-clause-turn
pass_on-requires-clause-turn g c =
    let done = c.requires.done in
    let me = c.put_back.ensures.turn in (
      _,
      done.0,
      _,
      refl,
      ap (λ (m : Me (Option (Content g.row.T.Denot g.row.D.Denot)) (View g.row.T.Denot g.row.D.Denot)). m.1) me,
      ap (λ (m : Me (Option (Content g.row.T.Denot g.row.D.Denot)) (View g.row.T.Denot g.row.D.Denot)). m.0.took) me ∙ done.1,
      refl,
      done.2,
    )
