-- How many changes put a row, counted one by one.
use Rattle.std.proofs.Common.{◌≡◌, ℕ, ◌+◌, ◌<◌, ◌≤◌, List, [], ◌∷◌, length, get_or, drop, sym, ap, ◌∙◌, arith}
use Rattle.std.proofs.lemmas.List.{drop_more}
use Rattle.wb_base.specs.declared.rows.Change.{Change}
use Rattle.wb_base.specs.declared.rows.Change.TheVariants.{Put, DropReport}
use Rattle.wb_memory.specs.Parts.{puts}

pub puts_first : (change : Change) (changes : List Change) → puts (change ∷ changes) ≡ puts (change ∷ []) + puts changes
puts_first (Put row) changes = omega arith
puts_first (DropReport tenant number) changes = omega arith

pub one_put : (change : Change) → puts (change ∷ []) ≤ 1
one_put (Put row) = omega arith
one_put (DropReport tenant number) = omega arith

pub counted_more : (changes : List Change) (i count : ℕ) (change : Change) → i < length changes → change ≡ get_or changes i change → count + puts (drop i changes) ≡ puts changes → count + puts (change ∷ []) + puts (drop (i + 1) changes) ≡ puts changes
counted_more changes i count change within here so_far =
    let next : puts (drop i changes) ≡ puts (change ∷ []) + puts (drop (i + 1) changes) = ap puts (drop_more changes i change within ∙ ap (λ c. c ∷ drop (i + 1) changes) (sym here)) ∙ puts_first change (drop (i + 1) changes) in
    omega (arith, next, so_far)
