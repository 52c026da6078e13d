-- The first row that breaks a rule, and the first rule that is broken.
use Rattle.std.specs.Prelude.{ℕ, not, Bool, if◌then◌else◌, List, [], ◌∷◌, find, Option, Some, None}
use Rattle.std.specs.List.{list_any}
use Rattle.std.specs.Option.{option_map}
use Rattle.wb_base.specs.declared.rows.Key.{Key}
use Rattle.wb_rows.specs.declared.faults.RowFault.{RowFault}
use Rattle.wb_rows.specs.declared.faults.RowFault.TheVariants.{BadSet}

-- the key of the first that breaks a rule
abbrev pub first_breaking : {X : Type 0} → (X → Bool) → (X → Key) → List X → Option Key
first_breaking rule key_of xs = option_map key_of (find (λ x. not (rule x)) xs)

-- the key of the first that a later one is the same as
abbrev pub first_repeated : {X : Type 0} → (X → X → Bool) → (X → Key) → List X → Option Key
first_repeated same key_of [] = None
first_repeated same key_of (x ∷ xs) = if list_any (same x) xs then Some (key_of x) else first_repeated same key_of xs

-- the rule is blamed where a row breaks it, else what comes after it
abbrev pub blamed : ℕ → Option Key → Option RowFault → Option RowFault
blamed rule (Some k) rest = Some (BadSet rule k)
blamed rule None rest = rest
