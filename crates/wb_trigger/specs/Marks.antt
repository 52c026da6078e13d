-- Truth values beside the fields so far, which tell of each whether it is shown.
use Rattle.std.specs.Prelude.{ℕ, List, [], ◌∷◌, ◌&&◌, ◌||◌, Bool, false}
use Rattle.wb_base.specs.declared.form.Field.{Field}
use Rattle.wb_base.specs.FormFields.{is_field}

-- some field of the id has the truth value true
abbrev pub any_shown : List Field → List Bool → List ℕ → Bool
any_shown [] marks id = false
any_shown (f ∷ fs) [] id = false
any_shown (f ∷ fs) (mark ∷ marks) id = (is_field id f && mark) || any_shown fs marks id
