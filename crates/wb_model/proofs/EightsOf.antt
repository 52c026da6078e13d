-- The rule of eight, for the sessions of one caller: where eight stand in the order of their turns, a login ends the first of them and no other.
use Rattle.std.proofs.Common.{suc, ◌≡◌, ℕ, ◌+◌, ◌≤◌, ◌<◌, Bool, true, false, cond, not, List, [], ◌∷◌, refl, ap, ◌∙◌, arith}
use Rattle.std.specs.Prelude.{filter, ◌&&◌, length, nat_le, if◌then◌else◌}
use Rattle.std.proofs.lemmas.Bool.Decides.{nat_tests}

module _ {X : Type 0} (turn : X → ℕ) (mine : X → Bool) where
  -- the turns ascend
  abbrev pub Rises : ℕ → List X → Type 0
  Rises k [] = Unit {0}
  Rises k (s ∷ ss) = (k ≤ (turn s)) × Rises ((turn s) + 1) ss

  abbrev pub held_by : List X → ℕ
  held_by ss = length (filter (λ s. mine s) ss)

  -- the sessions without the caller's first
  abbrev pub but_first : List X → List X
  but_first [] = []
  but_first (s ∷ ss) = if mine s then ss else s ∷ but_first ss

  -- how many of the caller's were made at the turn of s or later
  abbrev pub count_from : X → List X → ℕ
  count_from s ss = length (filter (λ z. mine z && nat_le (turn s) (turn z)) ss)

  abbrev pub is_ousted : List X → X → Bool
  is_ousted ss s = mine s && nat_le 8 (count_from s ss)

  swap_tests : (f g : X → Bool) (xs : List X) → ((x : X) → f x ≡ g x) → filter f xs ≡ filter g xs
  swap_tests f g [] same = refl
  swap_tests f g (x ∷ xs) same = grind (arith, same x, swap_tests f g xs same)

  later_at_most : (s : X) (ss : List X) → count_from s ss ≤ held_by ss
  later_at_most s [] = omega arith
  later_at_most s (z ∷ ss) = by (mine z) (nat_le (turn s) (turn z)) (later_at_most s ss)
    where
      by : (a b : Bool) → count_from s ss ≤ held_by ss → length (cond (a && b) (z ∷ filter (λ z. mine z && nat_le (turn s) (turn z)) ss) (filter (λ z. mine z && nat_le (turn s) (turn z)) ss)) ≤ length (cond a (z ∷ filter (λ s. mine s) ss) (filter (λ s. mine s) ss))
      by true true ih = omega (arith, ih)
      by true false ih = omega (arith, ih)
      by false b ih = ih

  filter_all : (f : X → Bool) (xs : List X) → ((x : X) → f x ≡ true) → filter f xs ≡ xs
  filter_all f [] all = refl
  filter_all f (x ∷ xs) all = grind (arith, all x, filter_all f xs all)

  few : (b : Bool) (n : ℕ) → n < 8 → not (b && nat_le 8 n) ≡ true
  few b n lt = grind (arith, nat_tests, lt)

  -- fewer than eight: none ends
  pub none_ousted : (ss : List X) → held_by ss < 8 → filter (λ s. not (is_ousted ss s)) ss ≡ ss
  none_ousted ss lt = filter_all _ ss (λ s. few (mine s) (count_from s ss) (let k : count_from s ss ≤ held_by ss = later_at_most s ss in omega arith))

  -- all are later than a turn below them
  all_later : (s : X) (k : ℕ) (ss : List X) → (turn s) ≤ k → Rises k ss → count_from s ss ≡ held_by ss
  all_later s k [] le r = refl
  all_later s k (z ∷ ss) le r = by (mine z) (nat_le (turn s) (turn z)) (let a : (turn s) ≤ (turn z) = omega (arith, le, r.0) in grind (arith, nat_tests, a)) (all_later s ((turn z) + 1) ss (omega (arith, le, r.0)) r.1)
    where
      by : (a b : Bool) → b ≡ true → count_from s ss ≡ held_by ss → length (cond (a && b) (z ∷ filter (λ z. mine z && nat_le (turn s) (turn z)) ss) (filter (λ z. mine z && nat_le (turn s) (turn z)) ss)) ≡ length (cond a (z ∷ filter (λ s. mine s) ss) (filter (λ s. mine s) ss))
      by true true e ih = ap suc ih
      by true false e ih = absurd (grind (arith, e))
      by false b e ih = ih

  -- one more session before the list counts for those at or before its turn alone
  later_cons : (s x : X) (xs : List X) → nat_le (turn s) (turn x) ≡ false → count_from s (x ∷ xs) ≡ count_from s xs
  later_cons s x xs e = by (mine x) (nat_le (turn s) (turn x)) e
    where
      by : (a b : Bool) → b ≡ false → length (cond (a && b) (x ∷ filter (λ z. mine z && nat_le (turn s) (turn z)) xs) (filter (λ z. mine z && nat_le (turn s) (turn z)) xs)) ≡ count_from s xs
      by true true f = absurd (grind (arith, f))
      by true false f = refl
      by false b f = refl

  -- those after the first stay
  rest_stays : (x : X) (xs ys : List X) (k : ℕ) → held_by xs < 8 → (turn x) < k → Rises k ys → filter (λ s. not (is_ousted (x ∷ xs) s)) ys ≡ ys
  rest_stays x xs [] k lt le r = refl
  rest_stays x xs (s ∷ ys) k lt le r =
      let above : nat_le (turn s) (turn x) ≡ false = (let a : (turn x) < (turn s) = omega (arith, le, r.0) in grind (arith, nat_tests, a)) in
      let here : not (is_ousted (x ∷ xs) s) ≡ true = ap (λ n. not (mine s && nat_le 8 n)) (later_cons s x xs above) ∙ few (mine s) (count_from s xs) (let m : count_from s xs ≤ held_by xs = later_at_most s xs in omega arith) in
      ap (λ b. cond b (s ∷ filter (λ s. not (is_ousted (x ∷ xs) s)) ys) (filter (λ s. not (is_ousted (x ∷ xs) s)) ys)) here
      ∙ ap (λ zs. s ∷ zs) (rest_stays x xs ys ((turn s) + 1) lt (omega (arith, le, r.0)) r.1)

  -- eight: the first ends, and no other
  pub first_ousted : (k : ℕ) (ss : List X) → Rises k ss → held_by ss ≡ 8 → filter (λ s. not (is_ousted ss s)) ss ≡ but_first ss
  first_ousted k [] r e = refl
  first_ousted k (x ∷ xs) r e = by (mine x) refl e (λ f. first_ousted ((turn x) + 1) xs r.1 f)
    where
      rest : List X
      rest = filter (λ s. not (is_ousted (x ∷ xs) s)) xs

      by : (b : Bool) → mine x ≡ b → length (cond b (x ∷ filter (λ s. mine s) xs) (filter (λ s. mine s) xs)) ≡ 8 → (held_by xs ≡ 8 → filter (λ s. not (is_ousted xs s)) xs ≡ but_first xs) →
          filter (λ s. not (is_ousted (x ∷ xs) s)) (x ∷ xs) ≡ cond b xs (x ∷ but_first xs)
      by true is f ih =
          let seven : held_by xs ≡ 7 = omega (arith, f) in
          let all : count_from x (x ∷ xs) ≡ 8 = ap (λ b. length (cond (b && nat_le (turn x) (turn x)) (x ∷ filter (λ z. mine z && nat_le (turn x) (turn z)) xs) (filter (λ z. mine z && nat_le (turn x) (turn z)) xs))) is
          ∙ (ap (λ b. length (cond b (x ∷ filter (λ z. mine z && nat_le (turn x) (turn z)) xs) (filter (λ z. mine z && nat_le (turn x) (turn z)) xs))) (let t : nat_le (turn x) (turn x) ≡ true = grind (arith, nat_tests) in t)
          ∙ ap suc (all_later x ((turn x) + 1) xs (omega arith) r.1 ∙ seven)) in
          let out : not (is_ousted (x ∷ xs) x) ≡ false = ap (λ b. not (b && nat_le 8 (count_from x (x ∷ xs)))) is ∙ ap (λ n. not (nat_le 8 n)) all in
          ap (λ b. cond b (x ∷ filter (λ s. not (is_ousted (x ∷ xs) s)) xs) (filter (λ s. not (is_ousted (x ∷ xs) s)) xs)) out
          ∙ rest_stays x xs xs ((turn x) + 1) (omega (arith, seven)) (omega arith) r.1
      by false is f ih =
          let stays : not (is_ousted (x ∷ xs) x) ≡ true = ap (λ b. not (b && nat_le 8 (count_from x (x ∷ xs)))) is in
          ap (λ b. cond b (x ∷ filter (λ s. not (is_ousted (x ∷ xs) s)) xs) (filter (λ s. not (is_ousted (x ∷ xs) s)) xs)) stays
          ∙ ap (λ zs. x ∷ zs) (swap_tests (λ s. not (is_ousted (x ∷ xs) s)) (λ s. not (is_ousted xs s)) xs
          (λ s. ap (λ b. not (mine s && nat_le 8 (length (cond (b && nat_le (turn s) (turn x)) (x ∷ filter (λ z. mine z && nat_le (turn s) (turn z)) xs) (filter (λ z. mine z && nat_le (turn s) (turn z)) xs))))) is) ∙ ih f)
