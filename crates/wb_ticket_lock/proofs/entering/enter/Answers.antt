use Rattle.std.proofs.Common.{◌∙◌, refl, sym, ap, subst}
use Rattle.wb_ticket_lock.specs.Seats.{Seated}
use Rattle.wb_ticket_lock.specs.Histories.{entry_of}
use Rattle.wb_ticket_lock.proofs.Entered.{rests, grown}
use Rattle.wb_ticket_lock.proofs.entering.enter.Goals as goal

pub release-requires-clause-done : goal.release-requires-clause-done
release-requires-clause-done g c =
    let x = c.acquire-ticket.result.1 in
    let deed = c.of-deed.ensures ∙ (λ i. (c.of-asked.ensures i, c.run-told.result)) in
    let P : g.row.J.Denot × g.row.A.Denot → Type 0 = λ d. (o : g.row.C.Denot) × (o' : g.row.C.Denot) × g.W.Work.does x o d.0 d.1 c.run-told.new.value o' in
    (x, ap (λ m. m.0.took) c.acquire-ticket.ensures.turn, subst P (sym deed) (c.args.own.now, c.run-told.new.own, c.run-told.ensures.does))

pub invariant_of-seat : goal.invariant_of-seat
invariant_of-seat g c =
    rests c.seat.inside.seat.me.0 c.acquire-ticket.result.0 c.acquire-ticket.result.1 c.run-told.new.value c.of-deed.result c.acquire-ticket.new.seat.me c.release.new.seat.me c.acquire-ticket.ensures.turn c.release.ensures.entry
    c.seat.invariant.0 c.release.ensures.above c.seat.invariant.4

pub returns-clause-entry : goal.returns-clause-entry
returns-clause-entry g c =
    let k = c.acquire-ticket.result.0 in
    let x = c.acquire-ticket.result.1 in
    let y = c.run-told.new.value in
    let deed = c.of-deed.ensures ∙ (λ i. (c.of-asked.ensures i, c.run-told.result)) in (
      entry_of k x (c.args.job, c.run-told.result) y,
      grown c.seat.inside.seat.me.0 k x y c.of-deed.result c.acquire-ticket.new.seat.me c.release.new.seat.me c.acquire-ticket.ensures.turn c.release.ensures.entry
          c.args.seat.now.mine (c.args.job, c.run-told.result) (ap (λ (s : Seated g.row.T.Denot (g.row.J.Denot × g.row.A.Denot)). s.mine) c.seat.view_is) deed,
      refl,
      c.run-told.ensures.does,
    )

pub returns-clause-rising : goal.returns-clause-rising
returns-clause-rising g c =
    (rests c.seat.inside.seat.me.0 c.acquire-ticket.result.0 c.acquire-ticket.result.1 c.run-told.new.value c.of-deed.result c.acquire-ticket.new.seat.me c.release.new.seat.me c.acquire-ticket.ensures.turn c.release.ensures.entry
    c.seat.invariant.0 c.release.ensures.above c.seat.invariant.4).4
