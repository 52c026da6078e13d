-- A source over a reader and a sink over a writer: what their inner ones tell, and the faults so far.
use Rattle.std.specs.Prelude.{ℕ, List, Option}

pub record StdEnd : Type 0 where
  -- the bytes that the reader has left or the writer holds, where it tells them
  pub told : Option (List ℕ)
  pub faults : ℕ
