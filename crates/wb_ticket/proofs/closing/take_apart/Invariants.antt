use Rattle.std.proofs.Common.{◌≡◌, ◌≤◌, ◌+◌, ◌++◌, map, length, vec_len, vec_capacity}
use Rattle.std.specs.Vec.Iter.{into_iter_items}
use Rattle.wb_desk.specs.Hosted.{parts_of}
use Rattle.wb_ticket.proofs.closing.take_apart.Given as goal

abbrev pub invariant-loop-own : goal.invariant-loop-own
invariant-loop-own g l = record {
  can : (goal.iterator-loop-own g).can_next l.own-iterator;
  finite : (goal.iterator-loop-own g).is_finite l.own-iterator;
  many : vec_len l.raw + length (into_iter_items l.own-iterator) ≡ vec_len l.fn.seats;
  as_many : vec_len l.passes ≡ vec_len l.raw;
  room : (vec_len l.fn.seats ≤ vec_capacity l.raw) × (vec_len l.fn.seats ≤ vec_capacity l.passes);
  locks : map (λ s. s.lock) l.raw.items ++ map (λ s. s.gate) (into_iter_items l.own-iterator) ≡ map (λ s. s.gate) l.fn.seats.items;
  mines : map (λ s. s.mine) l.raw.items ++ map (λ s. s.mine) (into_iter_items l.own-iterator) ≡ map (λ s. s.mine) l.fn.seats.items;
  hands : l.passes.items ++ map (λ s. s.hand) (into_iter_items l.own-iterator) ≡ map (λ s. s.hand) l.fn.seats.items;
  parts : parts_of l.passes.items ≡ vec_len l.passes;
}
