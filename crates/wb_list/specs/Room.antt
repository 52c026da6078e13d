-- A list, and the room that it has for more.
use Rattle.std.specs.Prelude.{ℕ, List}

-- a list, and how many more items it takes without memory
pub record Room (X : Type 0) : Type 0 where
  pub items : List X
  pub spare : ℕ
