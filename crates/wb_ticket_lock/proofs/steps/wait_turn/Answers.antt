use Rattle.std.proofs.Common.{◌∙◌, ap, arith}
use Rattle.std.specs.Prelude.{Option}
use Rattle.atomic_table.specs.Table.{Me}
use Rattle.wb_ticket_lock.specs.declared.entry.View.{View}
use Rattle.wb_ticket_lock.specs.Contents.{Content}
use Rattle.wb_ticket_lock.proofs.Allowed.{writes_wait_word, at_turn}
use Rattle.wb_ticket_lock.proofs.steps.wait_turn.Goals as goal

pub store-requires : goal.store-requires
store-requires g c = (
  c.watch.ensures.same.0 ∙ c.loop.invariant.0 ∙ c.requires.here.0,
  omega (arith, c.requires.here.1, c.wait_word_of-word.ensures.1),
  writes_wait_word _ _ _ _ _ _ _ 1 c.wait_word_of-word.ensures.0,
)

pub returns-then-watch-clause-turn : goal.returns-then-watch-clause-turn
returns-then-watch-clause-turn g c =
    let hit = c.if-watch.ensures.turn in
    (hit.0, hit.1, hit.2 ∙ ap (λ (m : Me (Option (Content g.row.T.Denot g.row.D.Denot)) (View g.row.T.Denot g.row.D.Denot)). at_turn m.0 c.args.ticket hit.0) c.loop.invariant.2)

pub returns-then-look-clause-turn : goal.returns-then-look-clause-turn
returns-then-look-clause-turn g c =
    let hit = c.if-look.ensures.turn in
    let same = c.store.ensures.2 ∙ c.if-watch.ensures.turn ∙ c.loop.invariant.2 in
    (hit.0, hit.1, hit.2 ∙ ap (λ (m : Me (Option (Content g.row.T.Denot g.row.D.Denot)) (View g.row.T.Denot g.row.D.Denot)). at_turn m.0 c.args.ticket hit.0) same)
