-- Marks by which some of a list are told apart, and a set of them.
use Rattle.std.specs.Prelude.{◌≡◌, Bool, false, List, Option, Some, None}
use Rattle.std.specs.BTreeSet.{BTreeSet, contains}
use Rattle.std.specs.List.{list_any}
use Rattle.std.specs.Ordering.{is_eq}
use Rattle.std.specs.declared.cmp.Ordering.{Ordering}

module _ {K : Type 0} (cmp : K → K → Ordering) where
  -- there is a mark, and it is this one
  abbrev pub is_mark : K → Option K → Bool
  is_mark q None = false
  is_mark q (Some k) = is_eq (cmp k q)

  -- both have a mark, and it is the same
  abbrev pub same_mark : Option K → Option K → Bool
  same_mark None other = false
  same_mark (Some k) other = is_mark k other

  -- the set has the marks of these
  abbrev pub AreMarks : {X : Type 0} → (X → Option K) → BTreeSet K → List X → Type 0
  AreMarks mark_of marks xs = (q : K) → contains cmp marks q ≡ list_any (λ x. is_mark q (mark_of x)) xs
