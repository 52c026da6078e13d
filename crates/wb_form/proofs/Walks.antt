-- One step of a walk over the items of a list.
use Rattle.std.proofs.Common.{◌≡◌, ℕ, suc, ◌+◌, ◌<◌, ◌||◌, Bool, drop, length, drop-cons, add-one, sym, List, [], ◌∷◌, ◌++◌, map, take, slice_get, get_or, Option, Some, option_map, ap, ◌∙◌}
use Rattle.std.proofs.lemmas.List.{map-append, take_more}
use Rattle.std.proofs.lemmas.Option.{slice_get_within, get_or_from_slice_get}
use Rattle.serde_json.specs.Data.{Data, Items}
use Rattle.std.specs.List.{list_any}
use Rattle.std.proofs.lemmas.List.Folds.{list_any-append}
use Rattle.wb_base.specs.declared.form.Field.{Field}
use Rattle.wb_base.specs.declared.form.Step.{Step}
use Rattle.wb_base.specs.FormFields.{fields_of}
use Rattle.wb_base.specs.FormShape.{all_of}

-- what was found, and then what the rest gives
abbrev pub then_rest : {X : Type 0} → (Data → Option X) → List X → Items → Option (List X)
then_rest read found rest = option_map (λ xs. found ++ xs) (all_of read rest)

-- what was made of one more item
pub grown : {X Y : Type 0} (f : X → Y) (xs : List X) (k : ℕ) (x : X) → slice_get xs k ≡ Some x → map f (take (k + 1) xs) ≡ map f (take k xs) ++ f x ∷ []
grown f xs k x here =
    ap (map f) (take_more xs k x (slice_get_within xs k x here)) ∙ map-append f (take k xs) (get_or xs k x ∷ []) ∙ ap (λ y. map f (take k xs) ++ f y ∷ []) (get_or_from_slice_get xs k x x here)

-- the fields of one more step
pub step-any : (test : Field → Bool) (steps : List Step) (k : ℕ) (s : Step) → k < length steps → s ≡ get_or steps k s
    → list_any test (fields_of (drop k steps)) ≡ (list_any test s.fields || list_any test (fields_of (drop (k + 1) steps)))
step-any test steps k s lt is =
    ap (λ (ss : List Step). list_any test (fields_of ss)) (drop-cons steps k s lt ∙ ap (λ (v : Step). v ∷ drop (suc k) steps) (sym is))
    ∙ list_any-append test s.fields (fields_of (drop (suc k) steps))
    ∙ ap (λ n. list_any test s.fields || list_any test (fields_of (drop n steps))) (sym (add-one k))
