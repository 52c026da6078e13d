-- Lists in an order.
use Rattle.std.specs.Prelude.{◌&&◌, Bool, true, List, [], ◌∷◌}
use Rattle.std.specs.List.{list_all}

-- each of a list comes before all that follow it
abbrev pub are_ordered : {X : Type 0} → (X → X → Bool) → List X → Bool
are_ordered is_before [] = true
are_ordered is_before (x ∷ xs) = list_all (is_before x) xs && are_ordered is_before xs
