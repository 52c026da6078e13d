-- The ends of the outside, as contracts see them. A count is how many calls of an end failed, up to 2^64 - 1.
use Rattle.std.specs.Prelude.{ℕ, List, Option}
use Rattle.wb_base.specs.declared.rows.Row.{Row}

-- what is read from: the bytes that it has left, where it tells them
pub record SourceEnd : Type 0 where
  pub left : Option (List ℕ)
  pub count : ℕ

-- what is written to: the bytes that it holds, where it tells them
pub record SinkEnd : Type 0 where
  pub held : Option (List ℕ)
  pub count : ℕ

-- what keeps rows: whether what it tells can be relied on, and that it holds these rows, by ascending key
pub record KeeperEnd : Type 1 where
  pub honest : Type 0
  pub holds : List Row → Type 0
  pub count : ℕ
