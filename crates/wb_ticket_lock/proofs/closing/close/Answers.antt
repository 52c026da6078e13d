use Rattle.std.proofs.Common.{◌≡◌, All, map, length, subst, ◌∙◌, sym, ap, arith}
use Rattle.std.specs.Prelude.{Option, Some}
use Rattle.std.proofs.lemmas.List.Elements.{All-pop}
use mathlib.Core.Option.{some-injective}
use Rattle.atomic_table.specs.Table.{Me}
use Rattle.wb_ticket_lock.specs.declared.entry.View.{View}
use Rattle.wb_ticket_lock.specs.Contents.{Content}
use Rattle.wb_ticket_lock.specs.Seats.{Locked, Seated}
use Rattle.wb_ticket_lock.specs.Histories.{AllRise, AllStandIn, Leads, StandIn, count_all, is_rising, merged, once_below, places, times, times_in_all}
use Rattle.wb_ticket_lock.proofs.Counts.{count-last, length-both, mapped-last, mapped-none, rise-last, stand-back, stand-front, stand-last, times-last, times-places-append}
use Rattle.wb_ticket_lock.proofs.Seats.{closes, finishes, merges}
use Rattle.wb_ticket_lock.proofs.closing.close.Goals as goal

pub loop-next-init : goal.loop-next-init
loop-next-init g c =
    let S : Type 0 = Seated g.row.T.Denot g.row.D.Denot in
    let last = c.in-Some.last in
    let v = c.last.inside.seat.me.0 in
    let id = ap (λ (l : Locked g.row.T.Denot). l.id) c.lock.view_is in
    let asked = subst (λ t. All (λ (s : S). s.lock ≡ t) c.args.seats.items) (sym id) c.requires in
    let here = All-pop (λ (s : S). s.lock ≡ c.lock.inside.table.shared.table_id) _ _ _ c.pop.ensures.items asked in
    let len = rw c.in-Some.is at c.pop.ensures.cases in
    let mine = ap (λ (s : S). s.mine) c.last.view_is in
    let e = mapped-last (λ (s : S). s.mine) c.args.seats.items c.pop.new.self.items last (rw c.in-Some.is at c.pop.ensures.items) in record {
      parts = (let one = c.last.invariant.0 in omega (arith, len));
      some = (let one = c.last.invariant.0 in omega arith);
      tickets = c.last.invariant.1;
      turn = c.last.invariant.2;
      slots = c.last.invariant.3;
      table = ap (λ (s : S). s.lock) c.last.view_is ∙ (rw c.in-Some.is at here.1);
      here = here.0;
      count = (
          let p = ap count_all e ∙ count-last (map (λ (s : S). s.mine) c.pop.new.self.items) last.mine in
          let q = ap length mine in
          omega arith);
      stand = λ es own rest. subst (AllStandIn es) (sym e) (stand-last es (map (λ (s : S). s.mine) c.pop.new.self.items) last.mine rest (subst (StandIn es) mine own));
      rise = λ rest. subst AllRise (sym e) (rise-last (map (λ (s : S). s.mine) c.pop.new.self.items) last.mine rest (ap (λ es. is_rising (places es)) (sym mine) ∙ c.last.invariant.4));
      mine = λ x. (
          let p = ap (times_in_all x) e ∙ times-last x (map (λ (s : S). s.mine) c.pop.new.self.items) last.mine in
          let q = ap (λ es. times x (places es)) mine in
          omega arith);
    }

pub join_seat-requires : goal.join_seat-requires
join_seat-requires g c =
    let S : Type 0 = Seated g.row.T.Denot g.row.D.Denot in
    let i = c.loop-next.invariant in
    let here = All-pop (λ (s : S). s.lock ≡ c.lock.inside.table.shared.table_id) _ _ _ c.pop-in-loop-next.ensures.items i.here in (
      i.table,
      ap (λ (s : S). s.lock) c.next.view_is ∙ (rw c.in-Some-pop.is at here.1),
      c.next.invariant.3,
      omega (arith, c.lock.invariant.2),
      merges _ _ _ _ _ _ _ i.some c.next.invariant.1 c.next.invariant.2,
    )

pub loop-next-preserved : goal.loop-next-preserved
loop-next-preserved g c =
    let S : Type 0 = Seated g.row.T.Denot g.row.D.Denot in
    let V : Type 0 = View g.row.T.Denot g.row.D.Denot in
    let next = c.in-Some-pop.next in
    let i = c.loop-next.invariant in
    let v = c.loop-next.all.me.0 in
    let w = c.next.inside.seat.me.0 in
    let here = All-pop (λ (s : S). s.lock ≡ c.lock.inside.table.shared.table_id) _ _ _ c.pop-in-loop-next.ensures.items i.here in
    let len = rw c.in-Some-pop.is at c.pop-in-loop-next.ensures.cases in
    let me = c.join_seat.ensures.2 in
    let now : c.join_seat.new.seat.me.0 ≡ merged v w = ap (λ (m : Me (Option (Content g.row.T.Denot g.row.D.Denot)) V). m.0) me in
    let mine = ap (λ (s : S). s.mine) c.next.view_is in
    let left = map (λ (s : S). s.mine) c.pop-in-loop-next.new.self.items in
    let e = mapped-last (λ (s : S). s.mine) c.loop-next.seats.items c.pop-in-loop-next.new.self.items next (rw c.in-Some-pop.is at c.pop-in-loop-next.ensures.items) in record {
      parts = (let p = ap (λ (z : V). z.parts) now in let q = i.parts in let one = c.next.invariant.0 in omega (arith, len));
      some = (let p = ap (λ (z : V). z.parts) now in let q = i.some in omega arith);
      tickets = ap (λ (z : V). z.tickets) now ∙ i.tickets;
      turn = ap (λ (z : V). z.turn) now ∙ i.turn;
      slots = ap (λ (m : Me (Option (Content g.row.T.Denot g.row.D.Denot)) V). m.1) me ∙ i.slots;
      table = c.join_seat.ensures.0 ∙ i.table;
      here = here.0;
      count = (
          let a = ap (λ (z : V). length z.mine) now in
          let b = length-both v.mine w.mine in
          let m = i.count in
          let p = ap count_all e ∙ count-last left next.mine in
          let q = ap length mine in
          omega arith);
      stand = λ es own rest. (
          let both = subst (StandIn es) (ap (λ (z : V). z.mine) now) own in
          i.stand es (stand-front es v.mine w.mine both) (subst (AllStandIn es) (sym e) (stand-last es left next.mine rest (subst (StandIn es) mine (stand-back es v.mine w.mine both)))));
      rise = λ rest. i.rise (subst AllRise (sym e) (rise-last left next.mine rest (ap (λ es. is_rising (places es)) (sym mine) ∙ c.next.invariant.4)));
      mine = λ x. (
          let a = ap (λ (z : V). times x (places z.mine)) now in
          let b = times-places-append x v.mine w.mine in
          let m = i.mine x in
          let p = ap (times_in_all x) e ∙ times-last x left next.mine in
          let q = ap (λ es. times x (places es)) mine in
          omega arith);
    }

pub take-found-requires : goal.take-found-requires
take-found-requires g c =
    let one = c.close_with-closed.ensures.counts.1 ∙ c.lock.invariant.3 in
    (omega (arith, one), c.close_with-closed.ensures.values.1 0 (omega arith) (omega (arith, one)))

pub unreachable-requires-in_default-found : goal.unreachable-requires-in_default-found
unreachable-requires-in_default-found g c =
    let i = c.loop-next.invariant in
    let none = rw c.in_default-pop.is at c.pop-in-loop-next.ensures.cases in
    let all = c.lock.invariant.0 in
    let end = closes _ _ _ _ c.loop-next.all.me.0 _ _ c.close_with-closed.ensures.values.2 (let p = i.parts in let n = none.0 in omega arith) i.turn in
    c.in_default-found.not-Some end.0 (some-injective _ _ (sym c.take-found.ensures.value ∙ end.1))

pub returns-clause-history : goal.returns-clause-history
returns-clause-history g c =
    let S : Type 0 = Seated g.row.T.Denot g.row.D.Denot in
    let i = c.loop-next.invariant in
    let none = rw c.in_default-pop.is at c.pop-in-loop-next.ensures.cases in
    let all = c.lock.invariant.0 in
    let whole : c.loop-next.all.me.0.parts ≡ c.lock.inside.table.shared.key.0 = (let p = i.parts in let n = none.0 in omega arith) in
    let went = finishes _ _ _ _ c.loop-next.all.me.0 _ _ c.close_with-closed.ensures.values.2 whole i.turn _ _ c.take-found.ensures.value (c.in-Some-found.is ∙ ap (λ (f : Content g.row.T.Denot g.row.D.Denot). Some f) (sym c.guarded.view_is)) in
    let once = (closes _ _ _ _ c.loop-next.all.me.0 _ _ c.close_with-closed.ensures.values.2 whole i.turn).2 in
    let bare = mapped-none (λ (s : S). s.mine) c.loop-next.seats.items (sym c.loop-next.seats.ok.0 ∙ none.0) in
    let first = ap (λ (l : Locked g.row.T.Denot). l.first) c.lock.view_is in
    let es = went.0 in
    let many : count_all (map (λ (s : S). s.mine) c.args.seats.items) ≡ length es = (let n = i.count in let z = ap count_all bare in let l = went.1 in omega arith) in (
      es,
      subst (λ x. Leads g.P.Transition.does 0 x es c.guarded.inside.value) first went.2,
      record {
        as_many = many;
        stand = i.stand es went.3 (subst (AllStandIn es) (sym bare) tt);
        rise = i.rise (subst AllRise (sym bare) tt);
        once = λ x. (
            let m = i.mine x in
            let z = ap (times_in_all x) bare in
            let q = once x in
            let same = ap (once_below x) (sym went.1) in
            omega arith);
      },
    )
