-- A host whose turns are booked, and the passes to it, as contracts see them.
use Rattle.std.specs.Prelude.{◌≡◌, ℕ, ◌+◌, ◌≤◌, List, sum_by}
use Rattle.wb_model.specs.Drawn.{numbers_of}
use Rattle.wb_model.specs.Rows.{rows_of}
use Rattle.wb_tables.specs.Standing.{Standing, hosts_of}
use Rattle.wb_desk.specs.GoneOn.{IsLater}
use Rattle.wb_base.specs.Ends.{KeeperEnd}

-- a host: its desk, the desk over which its books were opened, the two books since, and how often its keeper failed
pub record Hosted : Type 0 where
  pub desk : Standing
  pub opened : Standing
  pub turns : ℕ
  pub numbers : ℕ
  pub faults : ℕ

-- a host that was opened with this desk, whose keeper counts so many faults, before its first turn
abbrev pub begun : Standing → ℕ → Hosted
begun desk faults = record { desk = desk; opened = desk; turns = 0; numbers = 0; faults = faults }

-- a desk has made the turns that stood when the books were opened and those of the book, and drawn the numbers that stood then and those of
-- the book; an honest keeper holds its rows; and it is the desk over which they were opened, gone on by the turns of the book
pub record IsBooked (d opened : Standing) (turns numbers : ℕ) (keeper : KeeperEnd) : Type 0 where
  pub turns_add_up : d.turns ≡ opened.turns + turns
  pub numbers_add_up : numbers_of (hosts_of d) ≡ numbers_of (hosts_of opened) + numbers
  pub most : d.turns ≤ 1_000_000_000_000_000
  pub few : numbers ≤ turns
  pub kept : keeper.honest → keeper.holds (rows_of (hosts_of d).list)
  pub later : IsLater opened turns d

-- a pass: its parts, and its shares of the two books
pub record Hand : Type 0 where
  pub parts : ℕ
  pub turns : ℕ
  pub numbers : ℕ

-- a pass of one part before its first turn
abbrev pub fresh : Hand
fresh = record { parts = 1; turns = 0; numbers = 0 }

abbrev pub parts_of : List Hand → ℕ
parts_of ps = sum_by (λ (p : Hand). p.parts) ps

abbrev pub turns_of : List Hand → ℕ
turns_of ps = sum_by (λ (p : Hand). p.turns) ps

abbrev pub numbers_drawn : List Hand → ℕ
numbers_drawn ps = sum_by (λ (p : Hand). p.numbers) ps
