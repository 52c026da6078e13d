-- The order of items in chunks: which chunks begin with an item that passes a test.
use Rattle.std.proofs.Common.{◌≡◌, ℕ, zero, suc, ◌<◌, Bool, true, false, List, [], ◌∷◌, ◌++◌, length, get_or, take, drop, map, refl, sym, ap, subst, ◌∙◌, arith}
use Rattle.std.specs.declared.cmp.Ordering.{Ordering}
use Rattle.std.specs.declared.cmp.Ordering.TheVariants.{Less}
use Rattle.std.specs.List.{AllByRecursion}
use Rattle.std.specs.List.Sorted.{IsStrictlySortedBy, IsPartitionedBy}
use Rattle.std.proofs.lemmas.List.{take-append-drop}
use Rattle.wb_list.specs.Room.{Room}
use Rattle.wb_list.specs.Keyed.{IsAscending}
use Rattle.wb_list.proofs.LastItems.{all_front, all_back, ascending_back}
use Rattle.wb_memory.specs.Chunks.{joined, begins, AreFilled}
use Rattle.wb_memory.proofs.ChunkLemmas.{joined-append}

module _ {K T : Type 0} (R : K → K → Ordering) (key : T → K) where
  -- the chunks from a place on
  pub ascending_rest : (cs : List (Room T)) (n : ℕ) → IsAscending R key (joined cs) → IsAscending R key (joined (drop n cs))
  ascending_rest cs n sorted =
      let whole : joined cs ≡ joined (take n cs) ++ joined (drop n cs) = ap joined (sym (take-append-drop n cs)) ∙ joined-append (take n cs) (drop n cs) in
      ascending_back R key (joined (take n cs)) (joined (drop n cs)) (subst (λ t. IsAscending R key t) whole sorted)

module _ {T : Type 0} (test : T → Bool) where
  pub begins_first : (xs ys : List T) → 0 < length xs → begins test (xs ++ ys) ≡ begins test xs
  begins_first [] ys filled = absurd (omega (arith, filled))
  begins_first (x ∷ xs) ys filled = refl

  -- where the chunk at a place does not begin so, all from there on does not
  pub rest_begins : (cs : List (Room T)) (i : ℕ) → AreFilled cs → ((d : Room T) → i < length cs → begins test (get_or cs i d).items ≡ false) → begins test (joined (drop i cs)) ≡ false
  rest_begins [] zero filled after = refl
  rest_begins [] (suc i) filled after = refl
  rest_begins (c ∷ cs) zero filled after = begins_first c.items (joined cs) filled.0 ∙ after c (omega arith)
  rest_begins (c ∷ cs) (suc i) filled after = rest_begins cs i filled.1 (λ d within. after d (omega arith))

-- a test that what stands before an item passes where the item does
module _ {K T : Type 0} (R : K → K → Ordering) (key : T → K) (test : T → Bool) (down : (x y : T) → R (key x) (key y) ≡ Less → test y ≡ true → test x ≡ true) where
  pub passes_before : (x : T) (ys : List T) → AllByRecursion (λ q. R (key x) q ≡ Less) (map key ys) → begins test ys ≡ true → test x ≡ true
  passes_before x [] all passes = cc
  passes_before x (y ∷ ys) all passes = down x y all.0 passes

  -- an item below all of some chunks, of which one begins so
  later_begins : (x : T) (cs : List (Room T)) → AllByRecursion (λ q. R (key x) q ≡ Less) (map key (joined cs)) → (j : ℕ) (d : Room T) → j < length cs → begins test (get_or cs j d).items ≡ true → test x ≡ true
  later_begins x [] all j d within passes = absurd (omega arith)
  later_begins x (c ∷ cs) all zero d within passes = passes_before x c.items (all_front R key (λ q. R (key x) q ≡ Less) c.items (joined cs) all) passes
  later_begins x (c ∷ cs) all (suc j) d within passes = later_begins x cs (all_back R key (λ q. R (key x) q ≡ Less) c.items (joined cs) all) j d (omega arith) passes

  first_begins : (xs : List T) (cs : List (Room T)) → 0 < length xs → IsAscending R key (xs ++ joined cs) → (j : ℕ) (d : Room T) → j < length cs → begins test (get_or cs j d).items ≡ true → begins test xs ≡ true
  unfolding IsStrictlySortedBy
  first_begins [] cs filled sorted j d within passes = absurd (omega (arith, filled))
  first_begins (x ∷ xs) cs filled sorted j d within passes = later_begins x cs (all_back R key (λ q. R (key x) q ≡ Less) xs (joined cs) sorted.0) j d within passes

  -- the chunks that begin so stand before all others
  pub chunks_parted : (cs : List (Room T)) → AreFilled cs → IsAscending R key (joined cs) → IsPartitionedBy (λ (c : Room T). begins test c.items) cs
  chunks_parted [] filled sorted i j d le lt passes = absurd (omega arith)
  chunks_parted (c ∷ cs) filled sorted zero zero d le lt passes = passes
  chunks_parted (c ∷ cs) filled sorted zero (suc j) d le lt passes = first_begins c.items cs filled.0 sorted j d (omega arith) passes
  chunks_parted (c ∷ cs) filled sorted (suc i) zero d le lt passes = absurd (omega arith)
  chunks_parted (c ∷ cs) filled sorted (suc i) (suc j) d le lt passes = chunks_parted cs filled.1 (ascending_back R key c.items (joined cs) sorted) i j d (omega arith) (omega arith) passes
