-- Lists of what seats have.
use Rattle.std.proofs.Common.{◌≡◌, List, [], ◌∷◌, All, map}
use Rattle.std.proofs.lemmas.List.Elements.{All-cons, All-head, All-map, All-nil, All-same, All-tail}

from_map : {X Z : Type 0} (f : X → Z) (z : Z) (xs : List X) → All (λ w. w ≡ z) (map f xs) → All (λ x. f x ≡ z) xs
from_map f z [] h = All-nil (λ x. f x ≡ z)
from_map f z (x ∷ xs) h = All-cons (λ x. f x ≡ z) x xs (All-head (λ w. w ≡ z) (f x) (map f xs) h) (from_map f z xs (All-tail (λ w. w ≡ z) (f x) (map f xs) h))

-- what all of a list have, all of another have where it is had in the same order
pub all_mapped : {X Y Z : Type 0} (f : X → Z) (g : Y → Z) (z : Z) (xs : List X) (ys : List Y) → map f xs ≡ map g ys → All (λ y. g y ≡ z) ys → All (λ x. f x ≡ z) xs
all_mapped f g z xs ys e h = from_map f z xs (All-same (λ w. w ≡ z) (map f xs) (map g ys) e (All-map (λ w. w ≡ z) g ys h))
