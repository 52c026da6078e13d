-- Distinct ids that are sorted in place are those that are put in one by one.
use Rattle.std.proofs.Common.{◌≡◌, ℕ, suc, ◌+◌, ◌<◌, ◌≤◌, ◌==◌, not, Bool, true, false, if◌then◌else◌, List, [], ◌∷◌, length, get_or, fold, refl, sym, ap, subst, ◌∙◌, inl, inr, arith}
use Rattle.std.proofs.lemmas.Bool.{cases_Bool, and_parts, eq-eqb, false≢true}
use Rattle.std.proofs.lemmas.List.Sorted.{sum_by-IsPermutation}
use Rattle.std.specs.Cmp.{ranks}
use Rattle.std.specs.List.{AllByRecursion, list_any}
use Rattle.std.specs.List.Sorted.{IsPermutation, IsSorted}
use Rattle.std.specs.Ordering.{nat_cmp, match_ordering, MatchOrdering, is_lt}
use Rattle.std.specs.declared.cmp.Ordering.TheVariants.{Less, Equal, Greater}
use Rattle.wb_list.specs.Keyed.{insert_item}
use Rattle.wb_model.specs.Fits.{are_distinct}
use Rattle.wb_model.specs.Settings.{ascending}
use Rattle.wb_tenants.proofs.TenantParts.{other}

abbrev one : ℕ → ℕ → ℕ
one n x = if x == n then 1 else 0

-- how often a number stands in a list
abbrev count : ℕ → List ℕ → ℕ
count n [] = 0
count n (x ∷ xs) = one n x + count n xs

abbrev put : List ℕ → ℕ → List ℕ
put before id = insert_item nat_cmp (λ (n : ℕ). n) before id

one_same : (n : ℕ) → one n n ≡ 1
one_same n = rw (eq-eqb n n refl) refl

one_other : (n x : ℕ) → (x ≡ n → ⊥) → one n x ≡ 0
one_other n x ne = rw (other x n ne) refl

summed : (n a : ℕ) (xs : List ℕ) → fold (λ b x. b + one n x) a xs ≡ a + count n xs
summed n a [] = omega arith
summed n a (x ∷ xs) = let h = summed n (a + one n x) xs in omega (arith, h)

-- ---- lists that rise

abbrev Rises : List ℕ → Type 0
Rises [] = Unit {0}
Rises (x ∷ xs) = AllByRecursion (λ y. x ≤ y) xs × Rises xs

lower : (x y : ℕ) (ys : List ℕ) → x ≤ y → AllByRecursion (λ z. y ≤ z) ys → AllByRecursion (λ z. x ≤ z) ys
lower x y [] h all = tt
lower x y (z ∷ zs) h all = let k = all.0 in (omega (arith, h, k), lower x y zs h all.1)

le_of : (a b : ℕ) → is_lt (nat_cmp b a) ≡ false → a ≤ b
le_of a b no' = elim (nat_cmp b a) as (λ r. MatchOrdering r (b < a) (b ≡ a) (a < b) → is_lt r ≡ false → a ≤ b) [
  | Less ↦ λ h e. absurd (false≢true (sym e))
  | Equal ↦ λ h e. omega (arith, h)
  | Greater ↦ λ h e. omega (arith, h)
] (ranks b a) no'

rises : (xs : List ℕ) → ((k : ℕ) → k + 1 < length xs → get_or xs k 0 ≤ get_or xs (k + 1) 0) → Rises xs
rises [] up = tt
rises (x ∷ []) up = (tt, tt)
rises (x ∷ y ∷ ys) up =
    let tail = rises (y ∷ ys) (λ k b. subst (λ m. get_or (y ∷ ys) k 0 ≤ get_or (x ∷ y ∷ ys) m 0) {x = suc k + 1} {y = suc (k + 1)} (omega arith) (up (suc k) (omega (arith, b)))) in
    let h : x ≤ y = up 0 (omega arith) in
    ((h, lower x y ys h tail.0), tail)

above_put : (y : ℕ) (xs : List ℕ) (x : ℕ) → y ≤ x → AllByRecursion (λ z. y ≤ z) xs → AllByRecursion (λ z. y ≤ z) (put xs x)
above_put y [] x h all = (h, tt)
above_put y (z ∷ zs) x h all = elim (nat_cmp z x) as (λ r. AllByRecursion (λ z. y ≤ z) (match_ordering r (z ∷ put zs x) (x ∷ zs) (x ∷ z ∷ zs))) [
  | Less ↦ (all.0, above_put y zs x h all.1)
  | Equal ↦ (h, all.1)
  | Greater ↦ (h, all)
]

rises_put : (xs : List ℕ) (x : ℕ) → Rises xs → Rises (put xs x)
rises_put [] x up = (tt, tt)
rises_put (z ∷ zs) x up = elim (nat_cmp z x) as (λ r. MatchOrdering r (z < x) (z ≡ x) (x < z) → Rises (match_ordering r (z ∷ put zs x) (x ∷ zs) (x ∷ z ∷ zs))) [
  | Less ↦ λ h. (above_put z zs x (omega (arith, h)) up.0, rises_put zs x up.1)
  | Equal ↦ λ h. (lower x z zs (omega (arith, h)) up.0, up.1)
  | Greater ↦ λ h. ((omega (arith, h), lower x z zs (omega (arith, h)) up.0), up)
] (ranks z x)

rises_all : (xs before : List ℕ) → Rises before → Rises (fold put before xs)
rises_all [] before up = up
rises_all (x ∷ xs) before up = rises_all xs (put before x) (rises_put before x up)

-- ---- how often a number stands there

count_put : (n x : ℕ) (xs : List ℕ) → count x xs ≡ 0 → count n (put xs x) ≡ one n x + count n xs
count_put n x [] none = refl
count_put n x (z ∷ zs) none = elim (nat_cmp z x) as (λ r. MatchOrdering r (z < x) (z ≡ x) (x < z) → count n (match_ordering r (z ∷ put zs x) (x ∷ zs) (x ∷ z ∷ zs)) ≡ one n x + (one n z + count n zs)) [
  | Less ↦ λ h. let rest = count_put n x zs (omega (arith, none)) in omega (arith, rest)
  | Equal ↦ λ h. let here : one x z ≡ 1 = rw (eq-eqb z x h) refl in absurd (omega (arith, here, none))
  | Greater ↦ λ h. refl
] (ranks z x)

none_kept : (x : ℕ) (xs before : List ℕ) → count x before ≡ 0 → list_any (λ y. y == x) xs ≡ false → AllByRecursion (λ y. count y before ≡ 0) xs → AllByRecursion (λ y. count y (put before x) ≡ 0) xs
none_kept x [] before free apart none = tt
none_kept x (y ∷ ys) before free apart none = elim (cases_Bool (y == x)) [
  | inl same ↦ absurd (false≢true (sym apart ∙ rw same refl))
  | inr no' ↦
      let zero' : one y x ≡ 0 = one_other y x (λ e. false≢true (sym no' ∙ eq-eqb y x (sym e))) in
      let put' = count_put y x before free in
      let was = none.0 in
      (omega (arith, zero', put', was), none_kept x ys before free (rw no' at apart) none.1)
]

no_not : (b : Bool) → not b ≡ true → b ≡ false
no_not true e = absurd (false≢true e)
no_not false e = refl

count_all : (n : ℕ) (xs before : List ℕ) → are_distinct xs ≡ true → AllByRecursion (λ y. count y before ≡ 0) xs → count n (fold put before xs) ≡ count n before + count n xs
count_all n [] before distinct none = omega arith
count_all n (x ∷ xs) before distinct none =
    let parts = and_parts (not (list_any (λ y. y == x) xs)) (are_distinct xs) distinct in
    let rest = count_all n xs (put before x) parts.1 (none_kept x xs before none.0 (no_not _ parts.0) none.1) in
    let here = count_put n x before none.0 in
    omega (arith, rest, here)

-- ---- lists that rise and have the same numbers are the same

none_below : (n x : ℕ) (xs : List ℕ) → n < x → AllByRecursion (λ y. x ≤ y) xs → count n xs ≡ 0
none_below n x [] h all = refl
none_below n x (y ∷ ys) h all = let k = all.0 in let zero' = one_other n y (λ e. omega (arith, h, k, e)) in let rest = none_below n x ys h all.1 in omega (arith, zero', rest)

same : (as' bs : List ℕ) → Rises as' → Rises bs → ((n : ℕ) → count n as' ≡ count n bs) → as' ≡ bs
same [] [] ra rb e = refl
same [] (b ∷ bs) ra rb e = let k = e b in let h = one_same b in absurd (omega (arith, k, h))
same (a ∷ as') [] ra rb e = let k = e a in let h = one_same a in absurd (omega (arith, k, h))
same (a ∷ as') (b ∷ bs) ra rb e =
    elim (nat_cmp a b) as (λ r. MatchOrdering r (a < b) (a ≡ b) (b < a) → a ∷ as' ≡ b ∷ bs) [
      | Less ↦ λ h. let k = e a in let here = one_same a in let off = one_other a b (λ q. omega (arith, h, q)) in let rest = none_below a b bs h rb.0 in absurd (omega (arith, k, here, off, rest))
      | Equal ↦ λ h. rw h (ap (λ l. b ∷ l) (same as' bs ra.1 rb.1 (λ n. let k = e n in let q = ap (one n) h in omega (arith, k, q))))
      | Greater ↦ λ h. let k = e b in let here = one_same b in let off = one_other b a (λ q. omega (arith, h, q)) in let rest = none_below b a as' h ra.0 in absurd (omega (arith, k, here, off, rest))
    ] (ranks a b)

none_empty : (xs : List ℕ) → AllByRecursion (λ y. count y [] ≡ 0) xs
none_empty [] = tt
none_empty (x ∷ xs) = (refl, none_empty xs)

pub sorted_ascending : (xs ys : List ℕ) → are_distinct xs ≡ true → IsPermutation xs ys → IsSorted nat_cmp ys → ys ≡ ascending xs
sorted_ascending xs ys distinct moved sorted =
    let up = rises ys (λ k b. le_of (get_or ys k 0) (get_or ys (k + 1) 0) (sorted k 0 (omega arith) b)) in
    let counts : (n : ℕ) → count n ys ≡ count n (ascending xs) = λ n.
    let a = summed n 0 ys in let b = summed n 0 xs in let c = sum_by-IsPermutation (one n) xs ys moved in let d = count_all n xs [] distinct (none_empty xs) in
    omega (arith, a, b, c, d) in
    same ys (ascending xs) up (rises_all xs [] tt) counts
