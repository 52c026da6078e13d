use Rattle.std.proofs.Common.{◌≡◌, All, ◌∙◌, sym, ap, refl, subst, arith, List, ◌∷◌, ◌++◌, [], replicate}
use Rattle.std.specs.Prelude.{Option, Some}
use Rattle.std.proofs.lemmas.List.Elements.{All-push}
use Rattle.atomic_table.specs.Table.{opening, Me}
use Rattle.wb_ticket_lock.specs.declared.entry.View.{View}
use Rattle.wb_ticket_lock.specs.Contents.{Content}
use Rattle.wb_ticket_lock.specs.Seats.{Seated}
use Rattle.wb_ticket_lock.specs.Histories.{InOrder, newcomer}
use Rattle.wb_ticket_lock.proofs.Seats.{cuts, opens}
use Rattle.wb_ticket_lock.proofs.opening.over.Goals as goal

pub split_seat-seat-requires : goal.split_seat-seat-requires
split_seat-seat-requires g c =
    let ok = c.in-Ok-new.ensures.ok in
    (c.loop.invariant.table, omega (arith, ok.0), cuts _ _ _ _ _ (omega (arith, c.loop.invariant.parts, c.loop.invariant.high)))

pub new-requires : goal.new-requires
new-requires g c =
    let one : Content g.row.T.Denot g.row.D.Denot = _ in
    let items = c.push_reserved.ensures.items ∙ ap (λ (l : List (Option (Content g.row.T.Denot g.row.D.Denot))). l ++ Some one ∷ []) c.in-Ok-with_capacity.ensures.items in
    let P : List (Option (Content g.row.T.Denot g.row.D.Denot)) → Type 0 = λ xs. InOrder g.P.Transition.does c.args.seats c.of.result.value (opening (0 ∷ 0 ∷ replicate 64 0) xs (newcomer c.args.seats)) in
    subst P (sym items) (opens _ c.args.seats c.of.result.value one (replicate 64 0) refl (sym c.of.ensures))

pub loop-preserved : goal.loop-preserved
loop-preserved g c =
    let i = c.loop.invariant in
    let split = c.split_seat-seat.ensures in
    let push = c.push_reserved-in-loop.ensures in
    let more = c.loop-test.true in
    let left = split.2 in
    let right = split.4 in
    let Q : Seated g.row.T.Denot g.row.D.Denot → Type 0 = λ s. (s.lock ≡ c.in-Ok-new.made.0.shared.table_id) × (s.mine ≡ []) in record {
      parts = (let p = ap (λ (m : Me (Option (Content g.row.T.Denot g.row.D.Denot)) (View g.row.T.Denot g.row.D.Denot)). m.0.parts) left in omega (arith, p, i.parts, more));
      low = omega arith;
      high = omega (arith, more);
      tickets = ap (λ (m : Me (Option (Content g.row.T.Denot g.row.D.Denot)) (View g.row.T.Denot g.row.D.Denot)). m.0.tickets) left ∙ i.tickets;
      turn = ap (λ (m : Me (Option (Content g.row.T.Denot g.row.D.Denot)) (View g.row.T.Denot g.row.D.Denot)). m.0.turn) left ∙ i.turn;
      mine = ap (λ (m : Me (Option (Content g.row.T.Denot g.row.D.Denot)) (View g.row.T.Denot g.row.D.Denot)). m.0.mine) left ∙ i.mine;
      slots = ap (λ (m : Me (Option (Content g.row.T.Denot g.row.D.Denot)) (View g.row.T.Denot g.row.D.Denot)). m.1) left ∙ i.slots;
      table = split.0 ∙ i.table;
      count = omega (arith, push.len, i.count);
      room = omega (arith, push.capacity, i.room);
      all = subst (All Q) (sym push.items) (All-push Q _ _ i.all (
        split.3 ∙ i.table,
        ap (λ (m : Me (Option (Content g.row.T.Denot g.row.D.Denot)) (View g.row.T.Denot g.row.D.Denot)). m.0.mine) right,
      ));
    }

pub returns-clause-ok : goal.returns-clause-ok
returns-clause-ok g c =
    let i = c.loop.invariant in
    let push = c.push_reserved-2.ensures in
    let Q : Seated g.row.T.Denot g.row.D.Denot → Type 0 = λ s. (s.lock ≡ c.in-Ok-new.made.0.shared.table_id) × (s.mine ≡ []) in (
      refl,
      (λ i. (c.in-Ok-new.ensures.ok.5 i).1.value) ∙ c.of.ensures,
      omega (arith, push.len, i.count, i.high, c.loop-test.false),
      subst (All Q) (sym push.items) (All-push Q _ _ i.all (i.table, i.mine)),
    )
