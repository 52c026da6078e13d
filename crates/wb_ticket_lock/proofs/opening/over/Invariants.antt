use Rattle.std.proofs.Common.{◌≡◌, ◌≤◌, ◌+◌, [], false, All, vec_len, vec_capacity}
use Rattle.wb_ticket_lock.proofs.opening.over.Given as goal

abbrev pub invariant-loop : goal.invariant-loop
invariant-loop g l = record {
  parts : l.first.me.0.parts + l.counter ≡ l.seats + 1;
  low : 1 ≤ l.counter;
  high : l.counter ≤ l.seats;
  tickets : l.first.me.0.tickets ≡ [];
  turn : l.first.me.0.turn ≡ false;
  mine : l.first.me.0.mine ≡ [];
  slots : l.first.me.1 ≡ [];
  table : l.first.table_id ≡ l.table.shared.table_id;
  count : vec_len l.taken + 1 ≡ l.counter;
  room : l.seats ≤ vec_capacity l.taken;
  all : All (λ s. (s.lock ≡ l.table.shared.table_id) × (s.mine ≡ [])) l.taken.items;
}
