use Rattle.std.proofs.Common.{◌≡◌, ◌<◌, ◌+◌, ℕ, List, [], false, All, map, vec_len, length}
use Rattle.wb_ticket_lock.specs.Histories.{times, places, StandIn, AllStandIn, AllRise, count_all, times_in_all}
use Rattle.wb_ticket_lock.specs.declared.entry.Entry.{Entry}
use Rattle.wb_ticket_lock.proofs.closing.close.Given as goal

abbrev pub invariant-loop-next : goal.invariant-loop-next
invariant-loop-next g l = record {
  parts : l.all.me.0.parts + vec_len l.seats ≡ l.lock-inside.seats;
  some : 0 < l.all.me.0.parts;
  tickets : l.all.me.0.tickets ≡ [];
  turn : l.all.me.0.turn ≡ false;
  slots : l.all.me.1 ≡ [];
  table : l.all.table_id ≡ l.lock-inside.table.shared.table_id;
  here : All (λ s. s.lock ≡ l.lock-inside.table.shared.table_id) l.seats.items;
  count : length l.all.me.0.mine + count_all (map (λ s. s.mine) l.seats.items) ≡ count_all (map (λ s. s.mine) l.fn.seats.items);
  stand : (es : List (Entry g.row.T.Denot g.row.D.Denot)) → StandIn es l.all.me.0.mine → AllStandIn es (map (λ s. s.mine) l.seats.items) → AllStandIn es (map (λ s. s.mine) l.fn.seats.items);
  rise : AllRise (map (λ s. s.mine) l.seats.items) → AllRise (map (λ s. s.mine) l.fn.seats.items);
  mine : (x : ℕ) → times x (places l.all.me.0.mine) + times_in_all x (map (λ s. s.mine) l.seats.items) ≡ times_in_all x (map (λ s. s.mine) l.fn.seats.items);
}

abbrev pub decreases-loop-next : goal.decreases-loop-next
decreases-loop-next g l = vec_len l.seats
