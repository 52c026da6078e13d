-- The parts of changes: puts, and the rows of a kind of a report.
use Rattle.std.specs.Prelude.{ℕ, suc, Bool, List, [], ◌∷◌, ◌==◌, ◌&&◌}
use Rattle.wb_base.specs.declared.rows.Key.{Key}
use Rattle.wb_base.specs.declared.rows.Change.{Change}
use Rattle.wb_base.specs.declared.rows.Change.TheVariants.{Put, DropReport}

-- how many changes put a row
abbrev pub puts : List Change → ℕ
puts [] = 0
puts (Put row ∷ changes) = suc (puts changes)
puts (DropReport tenant number ∷ changes) = puts changes

-- the row of a key is one of a kind of a report
abbrev pub is_of_part : ℕ → ℕ → ℕ → Key → Bool
is_of_part kind tenant number key = (key.kind == kind) && (key.tenant == tenant) && (key.a == number)
