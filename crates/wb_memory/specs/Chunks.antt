-- Items in chunks.
use Rattle.std.specs.Prelude.{◌≡◌, ℕ, ◌+◌, ◌<◌, ◌≤◌, Bool, true, false, List, [], ◌∷◌, ◌++◌, length}
use Rattle.std.specs.List.{flat_map, AllByRecursion}
use Rattle.std.specs.Ordering.{is_le}
use Rattle.std.specs.declared.cmp.Ordering.{Ordering}
use Rattle.wb_list.specs.Room.{Room}
use Rattle.wb_list.specs.Keyed.{IsAscending}

-- the items of chunks, one chunk after another
abbrev pub joined : {X : Type 0} → List (Room X) → List X
joined {X} chunks = flat_map (λ (chunk : Room X). chunk.items) chunks

-- whether there is an item
abbrev pub is_filled : {X : Type 0} → List X → Bool
is_filled [] = false
is_filled (x ∷ xs) = true

-- whether there is a first item that passes a test
abbrev pub begins : {X : Type 0} → (X → Bool) → List X → Bool
begins test [] = false
begins test (x ∷ xs) = test x

-- no chunk is empty
abbrev pub AreFilled : {X : Type 0} → List (Room X) → Type 0
AreFilled {X} chunks = AllByRecursion (λ (chunk : Room X). 0 < length chunk.items) chunks

-- an empty chunk that takes 64 items
pub record IsReady {X : Type 0} (chunk : Room X) : Type 0 where
  pub empty : chunk.items ≡ []
  pub room : 64 ≤ chunk.spare

module _ {K T : Type 0} (cmp : K → K → Ordering) (key : T → K) where
  -- the first item stands at a key or before it
  abbrev pub begins_by : K → List T → Bool
  begins_by k items = begins (λ item. is_le (cmp (key item) k)) items

  -- the keys ascend from a first chunk through later ones, of which none is empty, and empty ones for what comes have their places among those
  pub record IsChunked (first : List T) (later spare : List (Room T)) (places : ℕ) : Type 0 where
    pub ascending : IsAscending cmp key (first ++ joined later)
    pub filled : AreFilled later
    pub ready : AllByRecursion IsReady spare
    pub placed : length later + length spare ≤ places
