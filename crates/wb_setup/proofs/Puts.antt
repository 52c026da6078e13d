-- Items that are put into a list one by one, each under a key of its own: what one of them is, what all are, and which are apart.
use Rattle.std.proofs.Common.{◌≡◌, Bool, true, false, not, ◌||◌, List, [], ◌∷◌, map, filter, cond, fold, refl, ap, ◌∙◌}
use Rattle.std.proofs.lemmas.Bool.{and_parts, or_parts, or_from, and_from, not_from_false, not-true}
use Rattle.std.specs.declared.cmp.Ordering.{Ordering}
use Rattle.std.specs.declared.cmp.Ordering.TheVariants.{Less, Equal, Greater}
use Rattle.std.specs.Cmp.{IsTotalOrder}
use Rattle.std.specs.List.{list_any, list_all, AllByRecursion}
use Rattle.std.specs.List.Sorted.{IsStrictlySortedBy}
use Rattle.std.specs.Ordering.{is_eq, ordering_reverse, match_ordering}
use Rattle.wb_list.specs.Keyed.{IsAscending, insert_item}
use Rattle.wb_list.proofs.KeyedLemmas.{ascending-insert_item}
use Rattle.wb_model.specs.SetUps.{are_apart}

-- what is the same one way is the same the other way
abbrev pub IsMutual : {T : Type 0} → (T → T → Bool) → Type 0
IsMutual {T} same = (x y : T) → same x y ≡ same y x

-- each of the items is apart from those before, and from those after it
abbrev pub Adds : {T : Type 0} → (T → T → Bool) → List T → List T → Type 0
Adds same before [] = Unit {0}
Adds same before (x ∷ xs) = (list_any (same x) before ≡ false) × (list_any (same x) xs ≡ false) × Adds same before xs

-- items that are apart are added to none, and to those that they are apart from
pub adds : {T : Type 0} (same : T → T → Bool) (before xs : List T) → are_apart same xs ≡ true → AllByRecursion (λ x. list_any (same x) before ≡ false) xs → Adds same before xs
adds same before [] apart new = tt
adds same before (x ∷ xs) apart new =
    let parts = and_parts (not (list_any (same x) xs)) (are_apart same xs) apart in
    (new.0, not-true _ parts.0, adds same before xs parts.1 new.1)

pub adds_first : {T : Type 0} (same : T → T → Bool) (xs : List T) → are_apart same xs ≡ true → Adds same [] xs
adds_first same [] apart = tt
adds_first same (x ∷ xs) apart =
    let parts = and_parts (not (list_any (same x) xs)) (are_apart same xs) apart in
    (refl, not-true _ parts.0, adds_first same xs parts.1)

-- what is one of some that pass a test is one of them all
any_fewer : {T : Type 0} (p q : T → Bool) (xs : List T) → list_any q xs ≡ false → list_any q (filter p xs) ≡ false
any_fewer p q [] none = refl
any_fewer p q (x ∷ xs) none = let parts = or_parts (q x) (list_any q xs) none in by (p x) parts.0 (any_fewer p q xs parts.1)
  where
    by : (b : Bool) → q x ≡ false → list_any q (filter p xs) ≡ false → list_any q (cond b (x ∷ filter p xs) (filter p xs)) ≡ false
    by true other rest = or_from (q x) (list_any q (filter p xs)) other rest
    by false other rest = rest

pub apart_fewer : {T : Type 0} (p : T → Bool) (same : T → T → Bool) (xs : List T) → are_apart same xs ≡ true → are_apart same (filter p xs) ≡ true
apart_fewer p same [] apart = refl
apart_fewer p same (x ∷ xs) apart = let parts = and_parts (not (list_any (same x) xs)) (are_apart same xs) apart in by (p x) (any_fewer p (same x) xs (not-true _ parts.0)) (apart_fewer p same xs parts.1)
  where
    by : (b : Bool) → list_any (same x) (filter p xs) ≡ false → are_apart same (filter p xs) ≡ true → are_apart same (cond b (x ∷ filter p xs) (filter p xs)) ≡ true
    by true none rest = and_from _ (are_apart same (filter p xs)) (not_from_false _ none) rest
    by false none rest = rest

first_two : (a b c : Bool) → (a || (b || c)) ≡ (b || (a || c))
first_two true true c = refl
first_two true false c = refl
first_two false b c = refl

last_two : (a b c : Bool) → (b || (a || c)) ≡ ((a || b) || c)
last_two true true c = refl
last_two true false c = refl
last_two false b c = refl

ties_back : (r : Ordering) → is_eq (ordering_reverse r) ≡ is_eq r
ties_back Less = refl
ties_back Equal = refl
ties_back Greater = refl

module _ {K T : Type 0} {R : K → K → Ordering} (o : IsTotalOrder R) (key : T → K) where
  abbrev pub put : List T → T → List T
  put xs x = insert_item R key xs x

  -- two have the same key
  abbrev pub same_key : T → T → Bool
  same_key x y = is_eq (R (key y) (key x))

  pub mutual_keys : IsMutual same_key
  mutual_keys x y = ap is_eq (o.antisymm (key y) (key x)) ∙ ties_back (R (key x) (key y))

  any_put : (P : T → Bool) (xs : List T) (x : T) → list_any (same_key x) xs ≡ false → list_any P (put xs x) ≡ (P x || list_any P xs)
  any_put P [] x new = refl
  any_put P (y ∷ ys) x new = by (R (key y) (key x)) new (λ e. any_put P ys x e)
    where
      by : (r : Ordering) → (is_eq r || list_any (same_key x) ys) ≡ false → (list_any (same_key x) ys ≡ false → list_any P (put ys x) ≡ (P x || list_any P ys)) → list_any P (match_ordering r (y ∷ put ys x) (x ∷ ys) (x ∷ y ∷ ys)) ≡ (P x || (P y || list_any P ys))
      by Less e rest = ap (λ b. P y || b) (rest e) ∙ first_two (P y) (P x) (list_any P ys)
      by Equal e rest = absurd cc
      by Greater e rest = refl

  all_put : (P : T → Bool) (xs : List T) (x : T) → P x ≡ true → list_all P xs ≡ true → list_all P (put xs x) ≡ true
  all_put P [] x good all = and_from (P x) true good refl
  all_put P (y ∷ ys) x good all = let parts = and_parts (P y) (list_all P ys) all in by (R (key y) (key x)) parts (all_put P ys x good parts.1)
    where
      by : (r : Ordering) → (P y ≡ true) × (list_all P ys ≡ true) → list_all P (put ys x) ≡ true → list_all P (match_ordering r (y ∷ put ys x) (x ∷ ys) (x ∷ y ∷ ys)) ≡ true
      by Less parts rest = and_from (P y) (list_all P (put ys x)) parts.0 rest
      by Equal parts rest = and_from (P x) (list_all P ys) good parts.1
      by Greater parts rest = and_from (P x) (list_all P (y ∷ ys)) good all

  apart_put : (same : T → T → Bool) → IsMutual same → (xs : List T) (x : T) → list_any (same_key x) xs ≡ false → list_any (same x) xs ≡ false → are_apart same xs ≡ true → are_apart same (put xs x) ≡ true
  apart_put same back [] x new none apart = refl
  apart_put same back (y ∷ ys) x new none apart = by (R (key y) (key x)) new (or_parts (same x y) (list_any (same x) ys) none) (and_parts (not (list_any (same y) ys)) (are_apart same ys) apart) (λ e other rest. apart_put same back ys x e other rest)
    where
      by : (r : Ordering) → (is_eq r || list_any (same_key x) ys) ≡ false → (same x y ≡ false) × (list_any (same x) ys ≡ false) → (not (list_any (same y) ys) ≡ true) × (are_apart same ys ≡ true)
          → (list_any (same_key x) ys ≡ false → list_any (same x) ys ≡ false → are_apart same ys ≡ true → are_apart same (put ys x) ≡ true) → are_apart same (match_ordering r (y ∷ put ys x) (x ∷ ys) (x ∷ y ∷ ys)) ≡ true
      by Less e other rest more = and_from _ (are_apart same (put ys x)) (not_from_false _ (any_put (same y) ys x e ∙ or_from (same y x) (list_any (same y) ys) (back y x ∙ other.0) (not-true _ rest.0))) (more e other.1 rest.1)
      by Equal e other rest more = absurd cc
      by Greater e other rest more = and_from _ (are_apart same (y ∷ ys)) (not_from_false _ none) apart

  -- what is added to a list is added to it with one more that it is apart from
  adds_more : (same : T → T → Bool) → IsMutual same → (before : List T) (x : T) (xs : List T) → list_any (same_key x) before ≡ false → list_any (same x) xs ≡ false → Adds same before xs → Adds same (put before x) xs
  adds_more same back before x [] new none more = tt
  adds_more same back before x (y ∷ ys) new none more =
      let other = or_parts (same x y) (list_any (same x) ys) none in
      (any_put (same y) before x new ∙ or_from (same y x) (list_any (same y) before) (back y x ∙ other.0) more.0, more.1, adds_more same back before x ys new other.1 more.2)

  pub any_puts : (P : T → Bool) (xs before : List T) → Adds same_key before xs → list_any P (fold put before xs) ≡ (list_any P xs || list_any P before)
  any_puts P [] before new = refl
  any_puts P (x ∷ xs) before new =
      any_puts P xs (put before x) (adds_more same_key mutual_keys before x xs new.0 new.1 new.2)
      ∙ (ap (λ b. list_any P xs || b) (any_put P before x new.0) ∙ last_two (P x) (list_any P xs) (list_any P before))

  pub all_puts : (P : T → Bool) (xs before : List T) → list_all P xs ≡ true → list_all P before ≡ true → list_all P (fold put before xs) ≡ true
  all_puts P [] before all good = good
  all_puts P (x ∷ xs) before all good = let parts = and_parts (P x) (list_all P xs) all in all_puts P xs (put before x) parts.1 (all_put P before x parts.0 good)

  pub apart_puts : (same : T → T → Bool) → IsMutual same → (xs before : List T) → Adds same_key before xs → Adds same before xs → are_apart same before ≡ true → are_apart same (fold put before xs) ≡ true
  apart_puts same back [] before new more apart = apart
  apart_puts same back (x ∷ xs) before new more apart =
      apart_puts same back xs (put before x) (adds_more same_key mutual_keys before x xs new.0 new.1 new.2) (adds_more same back before x xs new.0 more.1 more.2) (apart_put same back before x new.0 more.0 apart)

  pub ascending_puts : (xs before : List T) → IsAscending R key before → IsAscending R key (fold put before xs)
  ascending_puts [] before order = order
  ascending_puts (x ∷ xs) before order = ascending_puts xs (put before x) (ascending-insert_item o key before x order)

  none_same : (x : T) (xs : List T) → AllByRecursion (λ k. R (key x) k ≡ Less) (map key xs) → list_any (same_key x) xs ≡ false
  none_same x [] below = refl
  none_same x (y ∷ ys) below = or_from (same_key x y) (list_any (same_key x) ys) (ap is_eq (o.antisymm (key y) (key x) ∙ ap ordering_reverse below.0)) (none_same x ys below.1)

  -- no two of a list that ascends have the same key
  pub apart_ascending : (xs : List T) → IsAscending R key xs → are_apart same_key xs ≡ true
  unfolding IsStrictlySortedBy
  apart_ascending [] order = refl
  apart_ascending (x ∷ xs) order = and_from _ (are_apart same_key xs) (not_from_false _ (none_same x xs order.0)) (apart_ascending xs order.1)
