-- Answers that are read in the order of their ids.
use Rattle.std.specs.Prelude.{◌≡◌, ℕ, List}
use Rattle.std.specs.List.{AllByRecursion}
use Rattle.std.specs.Ordering.{nat_cmp}
use Rattle.std.specs.Cmp.Lexicographic.{slice_cmp}
use Rattle.std.specs.declared.cmp.Ordering.TheVariants.{Less}
use Rattle.wb_base.specs.AnswerList.{Answered, id_of}

-- the ids are below a key
abbrev pub AreBelow : Answered → List ℕ → Type 0
AreBelow answers key = AllByRecursion (λ a. slice_cmp nat_cmp (id_of a) key ≡ Less) answers
