-- What the slot holds, as contracts see it.
use Rattle.std.specs.Prelude.{ℕ, Option}

-- a value, the count of its entries, and what was done in the last one
pub record Content (X D : Type 0) : Type 0 where
  pub value : X
  pub entries : ℕ
  pub last : Option D
