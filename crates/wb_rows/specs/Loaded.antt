-- Rows that a keeper gave, and a keeper that keeps what it held: its end before and now.
use Rattle.std.specs.Prelude.{◌≡◌, List}
use Rattle.wb_base.specs.declared.rows.Row.{Row}
use Rattle.wb_base.specs.Ends.{KeeperEnd}

-- rows that were loaded are those that the keeper held, where it is honest
abbrev pub AreLoaded : KeeperEnd → KeeperEnd → List Row → Type 0
AreLoaded keeper keeper' rows = keeper'.honest → (before : List Row) → keeper.holds before → before ≡ rows

-- what is kept is as it was
abbrev pub KeepsRows : KeeperEnd → KeeperEnd → Type 0
KeepsRows keeper keeper' = keeper'.honest → (before : List Row) → keeper.holds before → keeper'.holds before
