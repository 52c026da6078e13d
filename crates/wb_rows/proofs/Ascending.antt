-- Numbers that ascend, and numbers of items that do.
use Rattle.std.proofs.Common.{◌≡◌, inl, inr, ℕ, ◌<◌, true, List, [], ◌∷◌, map, refl, ap, arith}
use Rattle.std.proofs.lemmas.Bool.{and_parts}
use Rattle.std.proofs.lemmas.Bool.Decides.{nat_tests}
use Rattle.std.specs.Prelude.{nat_lt}
use Rattle.wb_model.specs.Legal.{ascends, ascends_from}
use Rattle.wb_model.proofs.Found.{Held}

pub below : (k m : ℕ) → nat_lt k m ≡ true → k < m
below k m lt = grind (arith, nat_tests, lt)

pub in-above : (k n : ℕ) (ms : List ℕ) → ascends_from k ms ≡ true → Held n ms → k < n
in-above k n [] up there = absurd there
in-above k n (m ∷ ms) up (inl is) = let lt = below k m (and_parts (nat_lt k m) (ascends_from m ms) up).0 in omega (arith, lt, is)
in-above k n (m ∷ ms) up (inr later) =
    let order = and_parts (nat_lt k m) (ascends_from m ms) up in
    let lt = below k m order.0 in
    let rest = in-above m n ms order.1 later in
    omega (arith, lt, rest)

pub rest-ascends : (k : ℕ) (ms : List ℕ) → ascends_from k ms ≡ true → ascends ms ≡ true
rest-ascends k [] up = refl
rest-ascends k (m ∷ ms) up = (and_parts (nat_lt k m) (ascends_from m ms) up).1

pub in-map : {X Y : Type 0} (f : X → Y) (xs : List X) (x : X) → Held x xs → Held (f x) (map f xs)
in-map f [] x held = absurd held
in-map f (y ∷ ys) x (inl is) = inl (ap f is)
in-map f (y ∷ ys) x (inr held) = inr (in-map f ys x held)

-- of items whose numbers ascend from above a number, each has a greater one
pub held-above : {X : Type 0} (number : X → ℕ) (k : ℕ) (xs : List X) (x : X) → ascends_from k (map number xs) ≡ true → Held x xs → k < number x
held-above number k xs x up held = in-above k (number x) (map number xs) up (in-map number xs x held)
