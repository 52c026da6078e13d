use denote.Param.Send.{sendable}
use Rattle.std.proofs.Common.{◌≡◌, ◌+◌, [], map, slice_index_or, arith, sym, ap, ◌∙◌, subst}
use Rattle.std.proofs.Crossing.{crosses}
use Rattle.std.proofs.Math.ListN.{get_or-map}
use Rattle.std.proofs.lemmas.List.{length-map}
use Rattle.std.proofs.lemmas.List.Elements.{All-get_or, All-weaker}
use Rattle.wb_model.specs.Drawn.{numbers_of}
use Rattle.wb_tables.specs.Standing.{Standing, hosts_of}
use Rattle.wb_desk.specs.GoneOn.{IsLater}
use Rattle.wb_desk.specs.Hosted.{Hand, fresh}
use Rattle.wb_ticket.specs.OneHistory.{IsLastOf}
use Rattle.wb_ticket.specs.Owned.{Owned}
use Rattle.wb_server.proofs.Parts.{parts_each}
use Rattle.wb_server.proofs.Sent.{gate_sync, gate_sync_as_argument, seat_send, seat_send_as_argument}
use Rattle.wb_server.proofs.stations.serve_on.Goals as goal

pub unreachable-requires : goal.unreachable-requires
unreachable-requires g c =
    let passes = c.attend_stations.new.owns in
    let one = c.in_ok-all-in-Mutex.ensures.parts (All-weaker (λ (p : Hand). p ≡ fresh) (λ (p : Hand). p.parts ≡ 1) (λ p is. ap (λ (q : Hand). q.parts) is) c.split.new.passes.items c.split.ensures.each) in
    let all = parts_each passes.items one ∙ (sym passes.ok.0 ∙ c.in_ok-all-in-Mutex.ensures.stations.1) in
    let bad = c.in_default.ensures.all (all ∙ (sym c.requires.turns.2 ∙ c.requires.turns.1)) (all ∙ (sym c.requires.numbers.2 ∙ c.requires.numbers.1)) in absurd (cc (bad))

pub returns-in-Ok-clause-served : goal.returns-in-Ok-clause-served
returns-in-Ok-clause-served g c =
    let passes = c.attend_stations.new.owns in
    let stations = c.args.stations.now in
    let given = c.split.new.passes in
    rw c.in-Mutex.is (
      passes.items,
      sym c.in-Ok.ensures.ok.0,
      sym c.in-Ok.ensures.ok.1,
      (
        sym passes.ok.0 ∙ (c.in_ok-all-in-Mutex.ensures.stations.1 ∙ stations.ok.0),
        λ i d e inside.
            let begun = All-get_or (λ p. p ≡ fresh) given.items i fresh (omega (arith, inside, stations.ok.0, given.ok.0, c.split.ensures.many, ap (λ (p : Hand). p.parts) c.new-kept.ensures.pass, c.len-count.ensures)) c.split.ensures.each in
            rw c.requires.opened at (rw begun at (c.in_ok-all-in-Mutex.ensures.served i d e inside fresh fresh)),
      ),
    )

pub returns-in-Ok-clause-ended : goal.returns-in-Ok-clause-ended
returns-in-Ok-clause-ended g c =
    let closed = c.in-Ok.closed in
    let opened = c.in-Ok.ensures.opened in
    record {
      later = subst (λ (d : Standing). IsLater d closed.turns closed.desk) c.requires.opened opened.2;
      turns = opened.0 ∙ ap (λ (d : Standing). d.turns + closed.turns) c.requires.opened;
      numbers = opened.1 ∙ ap (λ (d : Standing). numbers_of (hosts_of d) + closed.numbers) c.requires.opened;
      left = c.in_ok-all-in-Mutex.ensures.left;
      failed = c.in_ok-all-in-Mutex.ensures.failed;
      kept = c.in-Ok.ensures.kept;
      honest = λ h. c.requires.honest.1 (c.in-Ok.ensures.honest h);
    }

pub returns-in-Ok-close_tickets-clause-served : goal.returns-in-Ok-close_tickets-clause-served
returns-in-Ok-close_tickets-clause-served g c =
    let t = c.in-Ok-over.tickets in
    let seats = c.attend_stations-in-Ticket.new.owns in
    let stations = c.args.stations.now in
    let closed = c.in-Ok-close_tickets.closed in
    let lists = map (λ (s : Owned). s.mine) seats.items in
    let first = c.in-Ok-over.ensures.gate.1 ∙ c.new-kept.ensures.host in
    rw c.in-Ticket.is (
      lists,
      subst (λ x. IsLastOf x lists closed.desk closed.turns closed.numbers (g.K.Keeper.end closed.keeper).count) first c.in-Ok-close_tickets.ensures.history,
      (
        length-map seats.items (λ (s : Owned). s.mine) ∙ (sym seats.ok.0 ∙ (c.in_ok-all-in-Ticket.ensures.stations.1 ∙ stations.ok.0)),
        λ i d e inside.
            let seat : Owned = record { gate = t.gate.id; hand = fresh; mine = [] } in
            let begun = All-get_or (λ (s : Owned). s ≡ seat) t.seats.items i seat (omega (arith, inside, stations.ok.0, t.seats.ok.0, c.in-Ok-over.ensures.seats.0, c.len-count.ensures)) c.in-Ok-over.ensures.seats.1 in
            record {
              seat = slice_index_or t.seats.items i seat;
              seat' = slice_index_or seats.items i seat;
              begins = ap (λ (s : Owned). s.mine) begun;
              ends = sym (get_or-map (λ (s : Owned). s.mine) seats.items i seat);
              served = c.in_ok-all-in-Ticket.ensures.served i d e inside seat seat;
            },
      ),
    )

pub returns-in-Ok-close_tickets-clause-ended : goal.returns-in-Ok-close_tickets-clause-ended
returns-in-Ok-close_tickets-clause-ended g c =
    let closed = c.in-Ok-close_tickets.closed in
    let opened = c.in-Ok-close_tickets.ensures.opened in
    record {
      later = subst (λ (d : Standing). IsLater d closed.turns closed.desk) c.requires.opened opened.2;
      turns = opened.0 ∙ ap (λ (d : Standing). d.turns + closed.turns) c.requires.opened;
      numbers = opened.1 ∙ ap (λ (d : Standing). numbers_of (hosts_of d) + closed.numbers) c.requires.opened;
      left = c.in_ok-all-in-Ticket.ensures.left;
      failed = c.in_ok-all-in-Ticket.ensures.failed;
      kept = c.in-Ok-close_tickets.ensures.kept;
      honest = λ h. c.requires.honest.1 (c.in-Ok-close_tickets.ensures.honest h);
    }

pub attend_stations-requires-in-Ticket-send-G-Own : goal.attend_stations-requires-in-Ticket-send-G-Own
attend_stations-requires-in-Ticket-send-G-Own g c κs within = search (seat_send, seat_send_as_argument, sendable, crosses) depth 20

pub attend_stations-requires-in-Ticket-sync-G : goal.attend_stations-requires-in-Ticket-sync-G
attend_stations-requires-in-Ticket-sync-G g c κs within = search (gate_sync, gate_sync_as_argument, sendable, crosses) depth 20
