-- Bytes cut at a mark.
use Rattle.std.specs.Prelude.{ℕ, ◌==◌, List, [], Option, Some, None}
use Rattle.std.specs.List.{slice_split}
use Rattle.std.specs.Borrow.{Bor}

-- the parts between the marks
abbrev pub cut_at : ℕ → List ℕ → List (List ℕ)
cut_at mark bytes = slice_split (λ c. c == mark) bytes

-- the parts of what is left, if something is
abbrev pub cut_if : ℕ → Option (Bor (List ℕ)) → List (List ℕ)
cut_if mark None = []
cut_if mark (Some bytes) = cut_at mark bytes.now
