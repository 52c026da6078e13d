-- Random words of random bytes.
use Rattle.std.specs.Prelude.{ℕ, List, take, drop}
use Rattle.std.specs.Int.{w64, from_le_bytes}

-- the word of the 8 bytes from this place on, the lowest first
abbrev pub word_at : List ℕ → ℕ → ℕ
word_at bytes place = from_le_bytes w64 (take 8 (drop place bytes))
