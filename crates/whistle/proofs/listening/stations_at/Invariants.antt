use Rattle.std.proofs.Common.{◌≡◌, vec_len}
use Rattle.std.specs.Prelude.{All, is_some}
use Rattle.whistle.proofs.listening.stations_at.Given as goal

abbrev pub invariant-loop : goal.invariant-loop
invariant-loop l = (vec_len l.stations ≡ l.counter) × All (λ s. s.listener ≡ record { is_bound = is_some l.fn.listener; faults = 0 }) l.stations.items
