-- What brings links over TCP, as contracts see it.
use Rattle.std.specs.Prelude.{ℕ, Bool}

-- whether there is a socket that listens, and the faults so far
pub record Listening : Type 0 where
  pub is_bound : Bool
  pub faults : ℕ
