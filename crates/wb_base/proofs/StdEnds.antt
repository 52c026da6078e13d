-- What a writer took piece by piece is a front of all.
use Rattle.std.proofs.Common.{◌≡◌, ◌++◌, ◌-◌, ℕ, List, length, take, drop, Option, append_assoc, sym, ap, ◌∙◌}
use Rattle.std.specs.Io.KnownBytes.{Appends}
use Rattle.std.proofs.lemmas.List.{take-append-drop, length-drop}
use Rattle.std.proofs.Math.Seq.{take-length}
use Rattle.std.proofs.KnownBytes.{Appends-trans}

-- `rest[n..]`
past : (rest : List ℕ) (n : ℕ) → drop n rest ≡ take (length rest - n) (drop n rest)
past rest n = sym (take-length (drop n rest)) ∙ ap (λ k. take k (drop n rest)) (length-drop n rest)

pub one_more_piece : (told told' told'' : Option (List ℕ)) (bytes front rest : List ℕ) (n : ℕ) → bytes ≡ front ++ rest → Appends told told' front → Appends told' told'' (take n rest)
    → (f : List ℕ) × (bytes ≡ f ++ take (length rest - n) (drop n rest)) × Appends told told'' f
one_more_piece told told' told'' bytes front rest n whole before now = (
  front ++ take n rest,
  whole ∙ (ap (λ l. front ++ l) (sym (take-append-drop n rest)) ∙ (ap (λ l. front ++ (take n rest ++ l)) (past rest n) ∙ sym (append_assoc front (take n rest) (take (length rest - n) (drop n rest))))),
  Appends-trans told told' told'' front (take n rest) before now,
)
