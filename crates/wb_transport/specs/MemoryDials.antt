-- A dialer in memory.
use Rattle.std.specs.Prelude.{ℕ, List, map}
use Rattle.wb_transport.specs.MemoryLinks.{LinkState, line_of}
use Rattle.wb_transport.specs.Dials.{Dialed, Offered}

-- the links that are left, each with its endpoint; how many are out; those that were closed; and how many calls failed
pub record DialState : Type 0 where
  pub left : List (List ℕ × LinkState)
  pub out : ℕ
  pub closed : List LinkState
  pub faults : ℕ

abbrev pub offered_of : List ℕ × LinkState → Offered
offered_of offer = record { endpoint = offer.0; line = line_of offer.1 }

abbrev pub dialed_of : DialState → Dialed
dialed_of s = record { left = map offered_of s.left; out = s.out; closed = map line_of s.closed }
