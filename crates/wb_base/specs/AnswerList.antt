-- Answers as a list of field ids with what was given, and the look-up of one.
use Rattle.std.specs.Prelude.{ℕ, List, find, Bool, Option, option_map, nat_eq}
use Rattle.std.specs.Cmp.Lexicographic.{pointwise}
use Rattle.wb_base.specs.declared.answers.Given.{Given}

-- two texts are the same
abbrev pub is_text : List ℕ → List ℕ → Bool
is_text s t = pointwise nat_eq s t

-- field ids with what was given
abbrev pub Answered : Type 0
Answered = List (List ℕ × Given)

-- the field id of an entry
abbrev pub id_of : List ℕ × Given → List ℕ
id_of entry = entry.0

-- what was given for the field of an id
abbrev pub answer_to : Answered → List ℕ → Option Given
answer_to answers id = option_map (λ entry. entry.1) (find (λ entry. is_text (id_of entry) id) answers)
