-- A put into one chunk, and what it is of all items.
use Rattle.std.proofs.Common.{◌≡◌, ℕ, ◌+◌, ◌<◌, true, false, List, [], ◌∷◌, ◌++◌, length, get_or, take, drop, map, refl, sym, ap, subst, ◌∙◌, arith}
use Rattle.std.specs.declared.cmp.Ordering.{Ordering}
use Rattle.std.specs.declared.cmp.Ordering.TheVariants.{Less, Equal, Greater}
use Rattle.std.specs.Ordering.{is_le, match_ordering}
use Rattle.std.specs.Cmp.{IsTotalOrder}
use Rattle.std.specs.List.{AllByRecursion}
use Rattle.std.specs.List.Sorted.{IsStrictlySortedBy}
use Rattle.std.proofs.lemmas.Cmp.{alike_right}
use Rattle.std.proofs.lemmas.List.{append_assoc}
use Rattle.wb_list.specs.Room.{Room}
use Rattle.wb_list.specs.Keyed.{IsAscending, insert_item}
use Rattle.wb_list.proofs.LastItems.{all_back}
use Rattle.wb_list.proofs.Sides.{is_greater}
use Rattle.wb_memory.specs.Chunks.{joined, begins_by, AreFilled}
use Rattle.wb_memory.proofs.ChunkLemmas.{every_at, joined_at}
use Rattle.wb_memory.proofs.ChunkOrder.{begins_first, rest_begins}

module _ {K T : Type 0} (R : K → K → Ordering) (key : T → K) where
  -- what stands behind an item stays there
  pub insert_front : (xs ys : List T) (x : T) → begins_by R key (key x) ys ≡ false → insert_item R key (xs ++ ys) x ≡ insert_item R key xs x ++ ys
  insert_front [] [] x after = refl
  insert_front [] (y ∷ ys) x after = rw (is_greater (R (key y) (key x)) after) refl
  insert_front (z ∷ xs) ys x after =
      elim (R (key z) (key x)) as (λ r. match_ordering r (z ∷ insert_item R key (xs ++ ys) x) (x ∷ (xs ++ ys)) (x ∷ z ∷ (xs ++ ys)) ≡ match_ordering r (z ∷ insert_item R key xs x) (x ∷ xs) (x ∷ z ∷ xs) ++ ys) [
        | Less ↦ ap (λ t. z ∷ t) (insert_front xs ys x after)
        | Equal ↦ refl
        | Greater ↦ refl
      ]

  pub put_before : (xs ys zs : List T) (x : T) → xs ++ ys ≡ zs → begins_by R key (key x) ys ≡ false → insert_item R key xs x ++ ys ≡ insert_item R key zs x
  put_before xs ys zs x e after = sym (insert_front xs ys x after) ∙ ap (λ t. insert_item R key t x) e

  pub insert_filled : (xs : List T) (x : T) → 0 < length (insert_item R key xs x)
  insert_filled [] x = omega arith
  insert_filled (y ∷ ys) x =
      elim (R (key y) (key x)) as (λ r. 0 < length (match_ordering r (y ∷ insert_item R key ys x) (x ∷ ys) (x ∷ y ∷ ys))) [
        | Less ↦ omega arith
        | Equal ↦ omega arith
        | Greater ↦ omega arith
      ]

module _ {K T : Type 0} {R : K → K → Ordering} (o : IsTotalOrder R) (key : T → K) where
  -- what is below an item at a key or before it is below the key
  below_key : (k : K) (x y : T) → R (key x) (key y) ≡ Less → is_le (R (key y) k) ≡ true → R (key x) k ≡ Less
  below_key k x y below up_to =
      elim (R (key y) k) as (λ r. R (key y) k ≡ r → is_le r ≡ true → R (key x) k ≡ Less) [
        | Less ↦ λ less _. o.trans _ _ _ below less
        | Equal ↦ λ same _. sym (alike_right o _ _ (key x) same) ∙ below
        | Greater ↦ λ _ e. cc
      ] refl up_to

  pub down_by : (k : K) (x y : T) → R (key x) (key y) ≡ Less → is_le (R (key y) k) ≡ true → is_le (R (key x) k) ≡ true
  down_by k x y below up_to = ap is_le (below_key k x y below up_to)

  below_begin : (z : T) (ys : List T) (k : K) → AllByRecursion (λ q. R (key z) q ≡ Less) (map key ys) → begins_by R key k ys ≡ true → R (key z) k ≡ Less
  below_begin z [] k all begins = cc
  below_begin z (y ∷ ys) k all begins = below_key k z y all.0 begins

  -- what stands before an item stays there
  pub insert_back : (xs ys : List T) (x : T) → begins_by R key (key x) ys ≡ true → IsAscending R key (xs ++ ys) → insert_item R key (xs ++ ys) x ≡ xs ++ insert_item R key ys x
  unfolding IsStrictlySortedBy
  insert_back [] ys x begins sorted = refl
  insert_back (z ∷ xs) ys x begins sorted =
      rw (below_begin z ys (key x) (all_back R key (λ k. R (key z) k ≡ Less) xs ys sorted.0) begins) (ap (λ t. z ∷ t) (insert_back xs ys x begins sorted.1))

  -- an item that is put into the one or the other part of a list
  pub put_behind : (xs ys zs : List T) (x : T) → xs ++ ys ≡ zs → IsAscending R key zs → begins_by R key (key x) ys ≡ true → xs ++ insert_item R key ys x ≡ insert_item R key zs x
  put_behind xs ys zs x e sorted begins = sym (insert_back xs ys x begins (subst (λ t. IsAscending R key t) (sym e) sorted)) ∙ ap (λ t. insert_item R key t x) e

  -- an item whose place is in the chunk at q is put there
  pub put_later : (first : List T) (cs : List (Room T)) (x : T) (q : ℕ) (d : Room T) → AreFilled cs → IsAscending R key (first ++ joined cs) → q < length cs → begins_by R key (key x) (get_or cs q d).items ≡ true → ((e : Room T) → q + 1 < length cs → begins_by R key (key x) (get_or cs (q + 1) e).items ≡ false) → insert_item R key (first ++ joined cs) x ≡ first ++ (joined (take q cs) ++ (insert_item R key (get_or cs q d).items x ++ joined (drop (q + 1) cs)))
  put_later first cs x q d filled sorted within begins after =
      let here = get_or cs q d in
      let rest = joined (drop (q + 1) cs) in
      let before = joined (take q cs) in
      let split : first ++ joined cs ≡ (first ++ before) ++ (here.items ++ rest) = ap (λ t. first ++ t) (joined_at cs q d within) ∙ sym (append_assoc first before (here.items ++ rest)) in
      let begun : begins_by R key (key x) (here.items ++ rest) ≡ true = begins_first (λ item. is_le (R (key item) (key x))) here.items rest (every_at (λ (c : Room T). 0 < length c.items) cs q d filled within) ∙ begins in
      let back = insert_back (first ++ before) (here.items ++ rest) x begun (subst (λ t. IsAscending R key t) split sorted) in
      let front = insert_front R key here.items rest x (rest_begins (λ item. is_le (R (key item) (key x))) cs (q + 1) filled after) in
      ap (λ t. insert_item R key t x) split ∙ (back ∙ (ap (λ t. (first ++ before) ++ t) front ∙ append_assoc first before (insert_item R key here.items x ++ rest)))

  -- an item that stands before all later chunks is put into the first
  pub put_first : (first : List T) (cs : List (Room T)) (x : T) → AreFilled cs → ((d : Room T) → 0 < length cs → begins_by R key (key x) (get_or cs 0 d).items ≡ false) → insert_item R key (first ++ joined cs) x ≡ insert_item R key first x ++ joined cs
  put_first first cs x filled after = insert_front R key first (joined cs) x (rest_begins (λ item. is_le (R (key item) (key x))) cs 0 filled after)
