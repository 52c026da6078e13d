use Rattle.std.proofs.Common.{◌≡◌, ◌<◌, ◌≤◌, ◌+◌, [], All, vec_len, vec_capacity}
use Rattle.wb_desk.specs.Hosted.{fresh}
use Rattle.wb_ticket.proofs.opening.seat_all.Given as goal

abbrev pub invariant-loop-raw : goal.invariant-loop-raw
invariant-loop-raw g l = record {
  some : 0 < vec_len l.raw;
  parts : l.pass.parts ≡ vec_len l.raw;
  turns : l.pass.turns ≡ 0;
  numbers : l.pass.numbers ≡ 0;
  many : vec_len l.seats + vec_len l.raw ≡ vec_len l.fn.raw;
  room : vec_len l.fn.raw ≤ vec_capacity l.seats;
  left : All (λ s. (s.lock ≡ l.lock.id) × (s.mine ≡ [])) l.raw.items;
  done : All (λ s. s ≡ record { gate = l.lock.id; hand = fresh; mine = [] }) l.seats.items;
}

abbrev pub decreases-loop-raw : goal.decreases-loop-raw
decreases-loop-raw g l = vec_len l.raw
