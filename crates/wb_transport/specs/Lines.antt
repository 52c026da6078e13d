-- Links, and what brings them, as contracts see them.
use Rattle.std.specs.Prelude.{◌≡◌, ℕ, ◌+◌, List, ◌∷◌, Option, Some}
use Rattle.wb_base.specs.declared.words.Words.{Words}

-- a link that tells: the bytes that it has left to give, those that it got, and how often it failed
pub record Line : Type 0 where
  pub left : List ℕ
  pub got : List ℕ
  pub count : ℕ

-- a link: the bytes that it has left to give and those that it got, where it tells them, and how many of its calls failed, up to 2^64 - 1
pub record LinkEnd : Type 0 where
  pub left : Option (List ℕ)
  pub got : Option (List ℕ)
  pub count : ℕ

-- a link that is seen as this line
pub record IsLine (link : LinkEnd) (line : Line) : Type 0 where
  pub has_left : link.left ≡ Some line.left
  pub has_got : link.got ≡ Some line.got
  pub counts : link.count ≡ line.count

-- what a listener that tells has: the links that are left, how many were given and have not come back, and those that came back
pub record Lines : Type 0 where
  pub left : List Line
  pub out : ℕ
  pub came : List Line

-- a moment, in seconds since 1970-01-01 in UTC, and random words
abbrev pub Tick : Type 0
Tick = ℕ × Words

-- a listener: its links, where it tells them, and how many of its calls failed
pub record ListenerEnd : Type 0 where
  pub told : Option Lines
  pub count : ℕ

-- a listener that had these links gave this one, the first of those that were left
abbrev pub HasGiven : Lines → LinkEnd → ListenerEnd → Type 0
HasGiven x link listener' =
    (line : Line) × (rest : List Line) × (x.left ≡ line ∷ rest) × IsLine link line × (listener'.told ≡ Some (record x { left = rest; out = x.out + 1 }))

-- a ticker: the ticks that it has left, where it tells them, and how many of its calls failed
pub record Clock : Type 0 where
  pub left : Option (List Tick)
  pub count : ℕ
