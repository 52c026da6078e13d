-- Lists in the order of their keys, as the tests of set-up lists tell it; and which item of such a list has a key.
use Rattle.std.proofs.Common.{◌≡◌, ℕ, ◌==◌, ◌&&◌, ◌||◌, not, Bool, true, false, nat_lt, List, [], ◌∷◌, map, find, cond, Some, refl, sym, ap, ◌∙◌}
use Rattle.std.proofs.lemmas.Bool.{and_parts, and_from, or_parts, not-true, false≢true}
use Rattle.std.specs.Cmp.{IsTotalOrder, nat_cmp_total, then_total, on_total}
use Rattle.std.specs.List.{list_any, list_all, AllByRecursion}
use Rattle.std.specs.List.Sorted.{IsStrictlySortedBy}
use Rattle.std.specs.Option.{option_map_or}
use Rattle.std.specs.Ordering.{nat_cmp, ordering_then}
use Rattle.std.specs.declared.cmp.Ordering.TheVariants.{Less, Equal, Greater}
use Rattle.wb_list.specs.Keyed.{IsAscending}
use Rattle.wb_model.specs.Legal.{ascends, ascends_from}
use Rattle.wb_model.specs.SetUps.{are_apart}
use Rattle.wb_model.specs.Ordered.{are_ordered}
use Rattle.wb_setup.specs.Keys.{Key, key_cmp}

pub key_total : IsTotalOrder key_cmp
key_total = then_total (on_total (λ (k : Key). k.0) nat_cmp_total) (on_total (λ (k : Key). k.1) nat_cmp_total)

-- ---- by the tenant, and then by what tells a tenant's things apart

before_by : (l e m f : Bool) → ordering_then (cond l Less (cond e Equal Greater)) (cond m Less (cond f Equal Greater)) ≡ Less → (l || (e && m)) ≡ true
before_by true e m f less = refl
before_by false true true f less = refl
before_by false true false true less = absurd cc
before_by false true false false less = absurd cc
before_by false false m f less = absurd cc

less_by : (l e m f : Bool) → (l || (e && m)) ≡ true → ordering_then (cond l Less (cond e Equal Greater)) (cond m Less (cond f Equal Greater)) ≡ Less
less_by true e m f before = refl
less_by false true true f before = refl
less_by false true false f before = absurd (false≢true before)
less_by false false m f before = absurd (false≢true before)

module _ {T : Type 0} (tenant id : T → ℕ) where
  abbrev pub key : T → Key
  key x = (tenant x, id x)

  abbrev pub is_before : T → T → Bool
  is_before x y = nat_lt (tenant x) (tenant y) || ((tenant x == tenant y) && nat_lt (id x) (id y))

  all_before : (x : T) (xs : List T) → AllByRecursion (λ k. key_cmp (key x) k ≡ Less) (map key xs) → list_all (is_before x) xs ≡ true
  all_before x [] below = refl
  all_before x (y ∷ ys) below = and_from (is_before x y) (list_all (is_before x) ys) (before_by (nat_lt (tenant x) (tenant y)) (tenant x == tenant y) (nat_lt (id x) (id y)) (id x == id y) below.0) (all_before x ys below.1)

  pub ordered : (xs : List T) → IsAscending key_cmp key xs → are_ordered is_before xs ≡ true
  unfolding IsStrictlySortedBy
  ordered [] order = refl
  ordered (x ∷ xs) order = and_from (list_all (is_before x) xs) (are_ordered is_before xs) (all_before x xs order.0) (ordered xs order.1)

  all_below : (x : T) (xs : List T) → list_all (is_before x) xs ≡ true → AllByRecursion (λ k. key_cmp (key x) k ≡ Less) (map key xs)
  all_below x [] before = tt
  all_below x (y ∷ ys) before =
      let parts = and_parts (is_before x y) (list_all (is_before x) ys) before in
      (less_by (nat_lt (tenant x) (tenant y)) (tenant x == tenant y) (nat_lt (id x) (id y)) (id x == id y) parts.0, all_below x ys parts.1)

  pub ascending : (xs : List T) → are_ordered is_before xs ≡ true → IsAscending key_cmp key xs
  unfolding IsStrictlySortedBy
  ascending [] order = tt
  ascending (x ∷ xs) order =
      let parts = and_parts (list_all (is_before x) xs) (are_ordered is_before xs) order in
      (all_below x xs parts.0, ascending xs parts.1)

-- ---- ids

id_less : (l e : Bool) → l ≡ true → cond l Less (cond e Equal Greater) ≡ Less
id_less true e is = refl
id_less false e is = absurd (false≢true is)

id_before : (l e : Bool) → cond l Less (cond e Equal Greater) ≡ Less → l ≡ true
id_before true e less = refl
id_before false true less = absurd cc
id_before false false less = absurd cc

rises_from : (k : ℕ) (xs : List ℕ) → AllByRecursion (λ x. nat_cmp k x ≡ Less) xs → IsStrictlySortedBy nat_cmp xs → ascends_from k xs ≡ true
unfolding IsStrictlySortedBy
rises_from k [] below order = refl
rises_from k (x ∷ xs) below order = and_from (nat_lt k x) (ascends_from x xs) (id_before (nat_lt k x) (k == x) below.0) (rises_from x xs order.0 order.1)

pub ids_ascend : (xs : List ℕ) → IsStrictlySortedBy nat_cmp xs → ascends xs ≡ true
unfolding IsStrictlySortedBy
ids_ascend [] order = refl
ids_ascend (x ∷ xs) order = rises_from x xs order.0 order.1

above : (k x : ℕ) → nat_lt k x ≡ true → (xs : List ℕ) → AllByRecursion (λ y. nat_cmp x y ≡ Less) xs → AllByRecursion (λ y. nat_cmp k y ≡ Less) xs
above k x less [] all = tt
above k x less (y ∷ ys) all = (nat_cmp_total.trans k x y (id_less (nat_lt k x) (k == x) less) all.0, above k x less ys all.1)

all_above : (k : ℕ) (xs : List ℕ) → ascends_from k xs ≡ true → AllByRecursion (λ y. nat_cmp k y ≡ Less) xs × IsStrictlySortedBy nat_cmp xs
unfolding IsStrictlySortedBy
all_above k [] up = (tt, tt)
all_above k (x ∷ xs) up =
    let parts = and_parts (nat_lt k x) (ascends_from x xs) up in
    let rest = all_above x xs parts.1 in
    ((id_less (nat_lt k x) (k == x) parts.0, above k x parts.0 xs rest.0), rest)

pub ids_sorted : (xs : List ℕ) → ascends xs ≡ true → IsStrictlySortedBy nat_cmp xs
unfolding IsStrictlySortedBy
ids_sorted [] up = tt
ids_sorted (x ∷ xs) up = all_above x xs up

-- ---- the item that has a key

module _ {T : Type 0} (p q : T → Bool) where
  -- what is found and passes is one that passes both
  pub any_found : (xs : List T) → option_map_or q (find p xs) false ≡ true → list_any (λ x. p x && q x) xs ≡ true
  any_found [] is = is
  any_found (x ∷ xs) is = by (p x) is (λ e. any_found xs e)
    where
      by : (b : Bool) → option_map_or q (cond b (Some x) (find p xs)) false ≡ true → (option_map_or q (find p xs) false ≡ true → list_any (λ y. p y && q y) xs ≡ true) → ((b && q x) || list_any (λ y. p y && q y) xs) ≡ true
      by true e rest = ap (λ b. b || list_any (λ y. p y && q y) xs) e
      by false e rest = rest e

  none_passes : (xs : List T) → list_any p xs ≡ false → list_any (λ x. p x && q x) xs ≡ false
  none_passes [] none = refl
  none_passes (x ∷ xs) none = let parts = or_parts (p x) (list_any p xs) none in rw parts.0 (none_passes xs parts.1)

  same_none : (same : T → T → Bool) (x : T) → ((y : T) → p y ≡ true → same x y ≡ true) → (ys : List T) → list_any (same x) ys ≡ false → list_any p ys ≡ false
  same_none same x tie [] none = refl
  same_none same x tie (y ∷ ys) none =
      let parts = or_parts (same x y) (list_any (same x) ys) none in
      by (p y) refl parts.0 (same_none same x tie ys parts.1)
    where
      by : (b : Bool) → p y ≡ b → same x y ≡ false → list_any p ys ≡ false → (b || list_any p ys) ≡ false
      by true is off rest = absurd (false≢true (sym off ∙ tie y is))
      by false is off rest = rest

  -- where no two that pass the first are apart, one that passes both is what is found
  pub found_any : (same : T → T → Bool) → ((x y : T) → p x ≡ true → p y ≡ true → same x y ≡ true) → (xs : List T) → are_apart same xs ≡ true → list_any (λ x. p x && q x) xs ≡ true → option_map_or q (find p xs) false ≡ true
  found_any same ties [] apart is = is
  found_any same ties (x ∷ xs) apart is = by (p x) refl (q x) refl is (and_parts (not (list_any (same x) xs)) (are_apart same xs) apart) (λ parts e. found_any same ties xs parts e)
    where
      by : (b : Bool) → p x ≡ b → (c : Bool) → q x ≡ c → ((b && c) || list_any (λ y. p y && q y) xs) ≡ true → (not (list_any (same x) xs) ≡ true) × (are_apart same xs ≡ true)
          → (are_apart same xs ≡ true → list_any (λ y. p y && q y) xs ≡ true → option_map_or q (find p xs) false ≡ true) → option_map_or q (cond b (Some x) (find p xs)) false ≡ true
      by true is true good e parts rest = good
      by true is false bad e parts rest = absurd (false≢true (sym (none_passes xs (same_none same x (λ y there. ties x y is there) xs (not-true _ parts.0))) ∙ e))
      by false is c good e parts rest = rest parts.1 e
