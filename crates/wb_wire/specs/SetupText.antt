-- The text of a setup's frame, with which a script begins.
use Rattle.std.specs.Prelude.{ℕ, ◌≢◌, ◌≤◌, List, [], ◌∷◌, ◌++◌, length, decimal, codes}

-- a setup's first line: `@setup`, a space and how many bytes follow
abbrev pub setup_line : ℕ → List ℕ
setup_line size = codes "@setup" ++ 32 ∷ decimal size

-- a setup's frame is that line and its bytes, each with a line feed after it
unfoldable pub setup_text : List ℕ → List ℕ
setup_text bytes = setup_line (length bytes) ++ 10 ∷ (bytes ++ 10 ∷ [])

-- how long a setup may be
abbrev pub IsSetup : List ℕ → Type 0
IsSetup bytes = length bytes ≤ 1_048_576

-- no setup's frame begins the text
abbrev pub NoSetup : List ℕ → Type 0
NoSetup text = (bytes more : List ℕ) → IsSetup bytes → text ≢ setup_text bytes ++ more
