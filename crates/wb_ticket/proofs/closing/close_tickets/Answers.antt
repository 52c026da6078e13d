use Rattle.std.proofs.Common.{◌≡◌, List, All, ap, sym, subst}
use Rattle.wb_desk.specs.Hosted.{Hosted}
use Rattle.wb_ticket_lock.specs.Histories.{IsSplitInto, Leads}
use Rattle.wb_ticket_lock.specs.Seats.{Locked, Seated}
use Rattle.wb_ticket.specs.Owned.{AskedAndTold, IsTurnOf, Owned, TurnEntry}
use Rattle.wb_ticket.proofs.Apart.{all_mapped}
use Rattle.wb_ticket.proofs.closing.close_tickets.Goals as goal

pub close-requires : goal.close-requires
close-requires g c =
    let id = ap (λ (l : Locked Hosted). l.id) c.gate.view_is in
    all_mapped (λ (s : Seated Hosted AskedAndTold). s.lock) (λ (s : Owned). s.gate) c.gate.inside.lock.id c.take_apart.new.raw.items c.args.seats.items c.take_apart.ensures.raw.1
    (subst (λ t. All (λ (s : Owned). s.gate ≡ t) c.args.seats.items) (sym id) c.requires.here)

pub returns-clause-history : goal.returns-clause-history
returns-clause-history g c =
    let h = c.in-Ok.ensures.history in
    let leads : Leads IsTurnOf 0 c.args.gate.first h.0 c.in-Ok.kept = subst (λ (x : Hosted). Leads IsTurnOf 0 x h.0 c.in-Ok.kept) (ap (λ (l : Locked Hosted). l.first) c.gate.view_is) h.1 in
    record {
      entries = h.0;
      last = c.in-Ok.kept;
      went = record {
        leads = leads;
        split = subst (λ (lists : List (List TurnEntry)). IsSplitInto h.0 lists) c.take_apart.ensures.raw.2 h.2;
        script = λ start stands. c.a_history_is_a_script.ensures c.args.gate.first c.in-Ok.kept h.0 leads start stands;
      };
      desk_is = c.in-Ok-close.ensures.desk.0;
      turns_are = c.in-Ok-close.ensures.ok.0;
      numbers_are = c.in-Ok-close.ensures.ok.1;
      faults_are = c.in-Ok-close.ensures.desk.1;
    }
