-- Lists of what is shown of other lists.
use Rattle.std.proofs.Common.{◌≡◌, List, [], ◌∷◌, map, refl, ap}
use Rattle.serde_json.specs.Data.{Data, array}
use Rattle.serde_json.specs.View.{items_of}
use Rattle.wb_model.specs.Json.{list_of}

map-map : {X Y Z : Type 0} (f : Y → Z) (g : X → Y) (xs : List X) → map (λ x. f (g x)) xs ≡ map f (map g xs)
map-map f g [] = refl
map-map f g (x ∷ xs) = ap (λ zs. f (g x) ∷ zs) (map-map f g xs)

pub list_of-map : {X Y : Type 0} (show : Y → Data) (f : X → Y) (xs : List X) → list_of (λ x. show (f x)) xs ≡ list_of show (map f xs)
list_of-map show f xs = ap (λ ds. array (items_of ds)) (map-map show f xs)
