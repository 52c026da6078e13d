-- The items of a run stand in some chunks side by side, and no others lose any.
use Rattle.std.proofs.Common.{◌≡◌, ℕ, zero, suc, ◌+◌, ◌-◌, ◌<◌, ◌≤◌, Bool, true, false, not, filter, List, [], ◌∷◌, ◌++◌, length, get_or, take, drop, refl, sym, ap, subst, ◌∙◌, arith}
use Rattle.std.specs.declared.cmp.Ordering.{Ordering}
use Rattle.std.specs.declared.cmp.Ordering.TheVariants.{Less, Equal, Greater}
use Rattle.std.specs.Ordering.{is_eq, is_lt, is_le}
use Rattle.std.specs.List.Sorted.{IsStrictlySortedBy, IsPartitionPoint}
use Rattle.std.proofs.lemmas.List.{append_assoc, append-nil, take-append-drop, drop_more, take_more}
use Rattle.std.proofs.lemmas.List.Elements.{filter-append}
use Rattle.wb_list.specs.Room.{Room}
use Rattle.wb_list.specs.Keyed.{IsAscending, IsRun}
use Rattle.wb_list.proofs.LastItems.{all_back}
use Rattle.wb_list.proofs.Sides.{is_less, is_greater, not_both}
use Rattle.wb_memory.specs.Chunks.{joined, begins, AreFilled}
use Rattle.wb_memory.proofs.ChunkLemmas.{joined-append, every_at}
use Rattle.wb_memory.proofs.ChunkOrder.{ascending_rest, begins_first, rest_begins, passes_before}

module _ {T : Type 0} (side : T → Ordering) where
  not_begun : (xs : List T) → begins (λ x. is_lt (side x)) xs ≡ true → begins (λ x. is_le (side x)) xs ≡ false → ⊥
  not_begun [] e f = cc
  not_begun (x ∷ xs) e f = not_both (side x) e f

  -- the chunks that begin before a run are among those that begin before it or in it
  pub in_order : (cs : List (Room T)) (i j : ℕ) → i ≤ length cs
      → IsPartitionPoint (λ (c : Room T). begins (λ x. is_lt (side x)) c.items ≡ true) (λ (c : Room T). begins (λ x. is_lt (side x)) c.items ≡ false) cs i
      → IsPartitionPoint (λ (c : Room T). begins (λ x. is_le (side x)) c.items ≡ true) (λ (c : Room T). begins (λ x. is_le (side x)) c.items ≡ false) cs j
      → i ≤ j
  in_order [] i j bound before within = omega (arith, bound)
  in_order (c ∷ cs) zero j bound before within = omega arith
  in_order (c ∷ cs) (suc i) zero bound before within = absurd (not_begun c.items (before.0 0 c (omega arith) (omega arith)) (within.1 0 c (omega arith) (omega arith)))
  in_order (c ∷ cs) (suc i) (suc j) bound before within =
      let less : i ≤ j = in_order cs i j (omega (arith, bound)) (λ k d low high. before.0 (suc k) d (omega arith) (omega arith), λ k d low high. before.1 (suc k) d (omega arith) (omega arith)) (λ k d low high. within.0 (suc k) d (omega arith) (omega arith), λ k d low high. within.1 (suc k) d (omega arith) (omega arith)) in
      omega (arith, less)

module _ {K T : Type 0} (R : K → K → Ordering) (key : T → K) (side : T → Ordering) (run : IsRun R key side) where
  pub down_before : (x y : T) → R (key x) (key y) ≡ Less → is_lt (side y) ≡ true → is_lt (side x) ≡ true
  down_before x y below before = ap is_lt (run.before x y below (is_less (side y) before))

  pub down_within : (x y : T) → R (key x) (key y) ≡ Less → is_le (side y) ≡ true → is_le (side x) ≡ true
  down_within x y below within =
      elim (side x) as (λ r. side x ≡ r → is_le r ≡ true) [
        | Less ↦ λ _. refl
        | Equal ↦ λ _. refl
        | Greater ↦ λ above. ap is_le (sym (run.after x y below above)) ∙ within
      ] refl

  all_before : (xs ys : List T) → IsAscending R key (xs ++ ys) → begins (λ x. is_lt (side x)) ys ≡ true → filter (λ x. not (is_eq (side x))) xs ≡ xs
  unfolding IsStrictlySortedBy
  all_before [] ys sorted begun = refl
  all_before (x ∷ xs) ys sorted begun =
      let before = passes_before R key (λ z. is_lt (side z)) down_before x ys (all_back R key (λ q. R (key x) q ≡ Less) xs ys sorted.0) begun in
      rw (is_less (side x) before) (ap (λ t. x ∷ t) (all_before xs ys sorted.1 begun))

  all_behind : (ys : List T) → IsAscending R key ys → begins (λ x. is_le (side x)) ys ≡ false → filter (λ x. not (is_eq (side x))) ys ≡ ys
  unfolding IsStrictlySortedBy
  all_behind [] sorted behind = refl
  all_behind (y ∷ []) sorted behind = rw (is_greater (side y) behind) refl
  all_behind (y ∷ z ∷ ys) sorted behind =
      let above = is_greater (side y) behind in
      rw above (ap (λ t. y ∷ t) (all_behind (z ∷ ys) sorted.1 (ap is_le (run.after y z sorted.0.0 above))))

  begun_at : (cs : List (Room T)) (n : ℕ) (d : Room T) → AreFilled cs → n < length cs → begins (λ x. is_lt (side x)) (get_or cs n d).items ≡ true → begins (λ x. is_lt (side x)) (joined (drop n cs)) ≡ true
  begun_at cs n d filled within begun =
      ap (λ t. begins (λ x. is_lt (side x)) (joined t)) (drop_more cs n d within)
      ∙ (begins_first (λ x. is_lt (side x)) (get_or cs n d).items (joined (drop (n + 1) cs)) (every_at (λ (c : Room T). 0 < length c.items) cs n d filled within) ∙ begun)

  -- the chunks before the last one that begins before a run
  pub front_kept : (cs : List (Room T)) (n : ℕ) → AreFilled cs → IsAscending R key (joined cs) → n ≤ length cs → ((i : ℕ) (d : Room T) → i < n → begins (λ x. is_lt (side x)) (get_or cs i d).items ≡ true) → filter (λ x. not (is_eq (side x))) (joined (take (n - 1) cs)) ≡ joined (take (n - 1) cs)
  front_kept cs zero filled sorted bound begun = refl
  front_kept cs (suc n) filled sorted bound begun =
      let whole : joined cs ≡ joined (take n cs) ++ joined (drop n cs) = ap joined (sym (take-append-drop n cs)) ∙ joined-append (take n cs) (drop n cs) in
      let d : Room T = record { items = []; spare = 0 } in
      let same : suc n - 1 ≡ n = omega arith in
      rw same (all_before (joined (take n cs)) (joined (drop n cs)) (subst (λ t. IsAscending R key t) whole sorted) (begun_at cs n d filled (omega (arith, bound)) (begun n d (omega arith))))

  -- the chunks that begin behind a run
  pub behind_kept : (cs : List (Room T)) (n : ℕ) → AreFilled cs → IsAscending R key (joined cs) → ((d : Room T) → n < length cs → begins (λ x. is_le (side x)) (get_or cs n d).items ≡ false) → filter (λ x. not (is_eq (side x))) (joined (drop n cs)) ≡ joined (drop n cs)
  behind_kept cs n filled sorted behind =
      all_behind (joined (drop n cs)) (ascending_rest R key cs n sorted) (rest_begins (λ x. is_le (side x)) cs n filled behind)

module _ {T : Type 0} (test : T → Bool) where
  -- a chunk more of which only what passes is left
  pub dropped_more : (olds news : List (Room T)) (at : ℕ) (d : Room T) (whole : List T) → at < length olds → take at news ≡ take at olds → joined (drop at news) ≡ filter test (get_or olds at d).items ++ joined (drop (at + 1) olds)
      → filter test (joined (take (at + 1) olds)) ++ joined (drop (at + 1) olds) ≡ whole → filter test (joined (take at news)) ++ joined (drop at news) ≡ whole
  dropped_more olds news at d whole within front made left =
      let here = get_or olds at d in
      let fronts : joined (take (at + 1) olds) ≡ joined (take at olds) ++ (here.items ++ []) = ap joined (take_more olds at d within) ∙ joined-append (take at olds) (here ∷ []) in
      let both : filter test (joined (take (at + 1) olds)) ≡ filter test (joined (take at olds)) ++ filter test here.items = ap (filter test) (fronts ∙ ap (λ t. joined (take at olds) ++ t) (append-nil here.items)) ∙ filter-append test (joined (take at olds)) here.items in
      ap (λ t. filter test (joined t) ++ joined (drop at news)) front
      ∙ (ap (λ t. filter test (joined (take at olds)) ++ t) made
      ∙ (sym (append_assoc (filter test (joined (take at olds))) (filter test here.items) (joined (drop (at + 1) olds)))
      ∙ (ap (λ t. t ++ joined (drop (at + 1) olds)) (sym both) ∙ left)))

  -- at the start nothing is left but what passes, and at the end the front has none that does not
  pub dropped_none : (cs : List (Room T)) (at : ℕ) → filter test (joined (drop at cs)) ≡ joined (drop at cs) → filter test (joined (take at cs)) ++ joined (drop at cs) ≡ filter test (joined cs)
  dropped_none cs at behind =
      ap (λ t. filter test (joined (take at cs)) ++ t) (sym behind)
      ∙ (sym (filter-append test (joined (take at cs)) (joined (drop at cs))) ∙ ap (filter test) (sym (joined-append (take at cs) (drop at cs)) ∙ ap joined (take-append-drop at cs)))

  pub dropped_whole : (olds news : List (Room T)) (at : ℕ) (whole : List T) → take at news ≡ take at olds → filter test (joined (take at olds)) ≡ joined (take at olds) → filter test (joined (take at news)) ++ joined (drop at news) ≡ whole → joined news ≡ whole
  dropped_whole olds news at whole same before left =
      let front : filter test (joined (take at news)) ≡ joined (take at news) = ap (λ t. filter test (joined t)) same ∙ (before ∙ ap joined (sym same)) in
      ap joined (sym (take-append-drop at news)) ∙ (joined-append (take at news) (drop at news) ∙ (ap (λ t. t ++ joined (drop at news)) (sym front) ∙ left))
