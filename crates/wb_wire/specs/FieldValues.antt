-- What a search for the fields of a name answers.
use Rattle.std.specs.Prelude.{ℕ, ◌≡◌, List, [], ◌∷◌}
use Rattle.wb_wire.specs.declared.fields.Values.{Values}
use Rattle.wb_wire.specs.declared.fields.Values.TheVariants as found

-- none, one or several
abbrev pub AreValues : List (List ℕ) → Values → Type 0
AreValues values found.None = values ≡ []
AreValues values (found.One value) = values ≡ value.now ∷ []
AreValues values found.Several = (first : List ℕ) × (second : List ℕ) × (more : List (List ℕ)) × (values ≡ first ∷ second ∷ more)
