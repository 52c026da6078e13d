-- The numbers of a path that ends before its pattern.
use Rattle.std.proofs.Common.{◌≡◌, ◌||◌, not, is_some, ℕ, List, [], ◌∷◌, true, false, refl}
use Rattle.wb_base.specs.AnswerList.{is_text}
use Rattle.wb_model.specs.Routes.{is_name, path_number, are_numbers, number_under}

no_numbers : (names : List (List ℕ)) → are_numbers names [] ≡ true
no_numbers [] = refl
no_numbers (name ∷ names) = refl

no_number : (names : List (List ℕ)) (wanted : List ℕ) → number_under names [] wanted ≡ 1
no_number [] wanted = refl
no_number (name ∷ names) wanted = refl

pub numbers_end : (names texts : List (List ℕ)) (name text : List ℕ) (more : List (List ℕ)) → names ≡ name ∷ more → texts ≡ text ∷ [] → (not (is_name name) || is_some (path_number text)) ≡ true → are_numbers names texts ≡ true
numbers_end names texts name text more e f fits = rw (e, f, fits) (no_numbers more)

pub number_ends : (names texts : List (List ℕ)) (name text wanted : List ℕ) (more : List (List ℕ)) → names ≡ name ∷ more → texts ≡ text ∷ [] → is_text name wanted ≡ false → number_under names texts wanted ≡ 1
number_ends names texts name text wanted more e f other = rw (e, f, other) (no_number more wanted)
