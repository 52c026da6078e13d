-- Items in the order of their tenants are those of each tenant, one tenant after another; and so are their rows.
use Rattle.std.proofs.Common.{◌≡◌, inl, inr, ℕ, ◌<◌, ◌≤◌, Bool, true, false, cond, List, [], ◌∷◌, ◌++◌, map, filter, find, Option, Some, None, refl, sym, ap, ◌∙◌, subst, arith, eq-eqb, ne_eqb}
use Rattle.std.proofs.lemmas.Bool.{and_parts, eqb-true, false≢true}
use Rattle.std.proofs.lemmas.Cmp.{ranked}
use Rattle.std.specs.List.{AllByRecursion, list_all, list_any}
use Rattle.std.specs.List.Sorted.{IsStrictlySortedBy}
use Rattle.std.specs.Ordering.{nat_cmp}
use Rattle.std.specs.Prelude.{◌==◌, ◌||◌, is_some, nat_lt}
use Rattle.std.specs.declared.cmp.Ordering.{Ordering}
use Rattle.std.specs.declared.cmp.Ordering.TheVariants.{Less}
use Rattle.wb_base.specs.declared.rows.Row.{Row}
use Rattle.wb_list.specs.Keyed.{IsAscending}
use Rattle.wb_model.specs.declared.registry.Lists.{Lists}
use Rattle.wb_model.specs.declared.registry.TenantItem.{TenantItem}
use Rattle.wb_model.specs.Legal.{ascends, ascends_from}
use Rattle.wb_model.specs.SetUps.{has_tenant, tenant_ids}
use Rattle.wb_model.proofs.Found.{Held}
use Rattle.wb_model.proofs.KindRows.{each}
use Rattle.wb_model.proofs.PutLaw.{each_append, each_same}
use Rattle.wb_rows.proofs.Ascending.{below, in-above, rest-ascends}

module _ {T : Type 0} (tenant : T → ℕ) where
  abbrev pub is_of : ℕ → T → Bool
  is_of t x = tenant x == t

  -- the items of each tenant
  abbrev pub parts : List T → List ℕ → List T
  parts xs [] = []
  parts xs (t ∷ ts) = filter (is_of t) xs ++ parts xs ts

  -- the items are in the order of their tenants
  abbrev pub Rise : List T → Type 0
  Rise [] = Unit {0}
  Rise (x ∷ xs) = AllByRecursion (λ y. tenant x ≤ tenant y) xs × Rise xs

  -- and of these tenants
  abbrev pub AreOf : List ℕ → List T → Type 0
  AreOf ts xs = AllByRecursion (λ x. Held (tenant x) ts) xs

  -- what is no tenant's adds nothing
  not_later : (k : ℕ) (x : T) (xs : List T) (ts : List ℕ) → tenant x ≤ k → ascends_from k ts ≡ true → parts (x ∷ xs) ts ≡ parts xs ts
  not_later k x xs [] le up = refl
  not_later k x xs (t ∷ ts) le up =
      let order = and_parts (nat_lt k t) (ascends_from t ts) up in
      let lt = below k t order.0 in
      let other : (tenant x == t) ≡ false = ne_eqb (tenant x) t (λ e. omega (arith, e, le, lt)) in
      rw other (ap (λ l. filter (is_of t) xs ++ l) (not_later t x xs ts (omega (arith, le, lt)) order.1))

  none_of : (t : ℕ) (xs : List T) → AllByRecursion (λ y. t < tenant y) xs → filter (is_of t) xs ≡ []
  none_of t [] above = refl
  none_of t (x ∷ xs) above =
      let lt = above.0 in
      let other : (tenant x == t) ≡ false = ne_eqb (tenant x) t (λ e. omega (arith, e, lt)) in
      rw other (none_of t xs above.1)

  all_above : (t n : ℕ) (xs : List T) → t < n → AllByRecursion (λ y. n ≤ tenant y) xs → AllByRecursion (λ y. t < tenant y) xs
  all_above t n [] lt all = tt
  all_above t n (x ∷ xs) lt all = let le = all.0 in (omega (arith, lt, le), all_above t n xs lt all.1)

  rest_of : (t : ℕ) (ts : List ℕ) (xs : List T) → AllByRecursion (λ y. t < tenant y) xs → AreOf (t ∷ ts) xs → AreOf ts xs
  rest_of t ts [] above all = tt
  rest_of t ts (x ∷ xs) above all = (by all.0, rest_of t ts xs above.1 all.1)
    where
      by : Held (tenant x) (t ∷ ts) → Held (tenant x) ts
      by (inl is) = let lt = above.0 in absurd (omega (arith, is, lt))
      by (inr later) = later

  with_first : (t : ℕ) (ts : List ℕ) → ascends_from t ts ≡ true → ((xs : List T) → Rise xs → AreOf ts xs → parts xs ts ≡ xs) → (xs : List T) → Rise xs → AreOf (t ∷ ts) xs → parts xs (t ∷ ts) ≡ xs
  with_first t ts up rest [] rise all = rest [] tt tt
  with_first t ts up rest (x ∷ xs) rise all = by all.0 (with_first t ts up rest xs rise.1 all.1)
    where
      by : Held (tenant x) (t ∷ ts) → parts xs (t ∷ ts) ≡ xs → parts (x ∷ xs) (t ∷ ts) ≡ x ∷ xs
      by (inl is) more =
          let here : (tenant x == t) ≡ true = eq-eqb (tenant x) t is in
          rw (here, not_later t x xs ts (omega (arith, is)) up) (ap (λ l. x ∷ l) more)
      by (inr later) more =
          let lt = in-above t (tenant x) ts up later in
          let above = all_above t (tenant x) xs lt rise.0 in
          rw (none_of t (x ∷ xs) (lt, above)) (rest (x ∷ xs) rise (later, rest_of t ts xs above all.1))

  pub all-parts : (ts : List ℕ) → ascends ts ≡ true → (xs : List T) → Rise xs → AreOf ts xs → parts xs ts ≡ xs
  all-parts [] up [] rise all = refl
  all-parts [] up (x ∷ xs) rise all = absurd all.0
  all-parts (t ∷ ts) up xs rise all = with_first t ts up (all-parts ts (rest-ascends t ts up)) xs rise all

  -- ---- their rows

  -- with the tenant, or each with its own
  own_rows : (r : ℕ → T → List Row) (t : ℕ) (xs : List T) → each (r t) (filter (is_of t) xs) ≡ each (λ x. r (tenant x) x) (filter (is_of t) xs)
  own_rows r t [] = refl
  own_rows r t (x ∷ xs) = by (is_of t x) refl (own_rows r t xs)
    where
      by : (b : Bool) → is_of t x ≡ b → each (r t) (filter (is_of t) xs) ≡ each (λ y. r (tenant y) y) (filter (is_of t) xs)
          → each (r t) (cond b (x ∷ filter (is_of t) xs) (filter (is_of t) xs)) ≡ each (λ y. r (tenant y) y) (cond b (x ∷ filter (is_of t) xs) (filter (is_of t) xs))
      by true is rest = λ i. r (sym (eqb-true (tenant x) t is) i) x ++ rest i
      by false is rest = rest

  each_parts : (r : T → List Row) (xs : List T) (ts : List ℕ) → each (λ t. each r (filter (is_of t) xs)) ts ≡ each r (parts xs ts)
  each_parts r xs [] = refl
  each_parts r xs (t ∷ ts) = ap (λ l. each r (filter (is_of t) xs) ++ l) (each_parts r xs ts) ∙ sym (each_append r (filter (is_of t) xs) (parts xs ts))

  -- the rows of a kind, tenant by tenant, are those of the items in their order
  pub rows-by-tenant : (r : ℕ → T → List Row) (kind : ℕ → List Row) (ts : List ℕ) (xs : List T) → ascends ts ≡ true → Rise xs → AreOf ts xs → ((t : ℕ) → Held t ts → kind t ≡ each (r t) (filter (is_of t) xs)) → each kind ts ≡ each (λ x. r (tenant x) x) xs
  rows-by-tenant r kind ts xs up rise all same =
      each_same kind (λ t. each (λ x. r (tenant x) x) (filter (is_of t) xs)) ts (λ t held. same t held ∙ own_rows r t xs)
      ∙ (each_parts (λ x. r (tenant x) x) xs ts ∙ ap (each (λ x. r (tenant x) x)) (all-parts ts up xs rise all))

  -- ---- one of each tenant

  later : (x : T) (xs : List T) → AllByRecursion (λ k. nat_cmp (tenant x) k ≡ Less) (map tenant xs) → AllByRecursion (λ y. tenant x < tenant y) xs
  later x [] all = tt
  later x (y ∷ ys) all = (ranked (tenant x) (tenant y) Less (sym all.0), later x ys all.1)

  one_of : (t : ℕ) (xs : List T) (x : T) → IsAscending nat_cmp tenant xs → find (is_of t) xs ≡ Some x → filter (is_of t) xs ≡ x ∷ []
  unfolding IsStrictlySortedBy
  one_of t [] x order found = absurd (cc (found))
  one_of t (y ∷ ys) x order found = by (is_of t y) refl found (λ e. one_of t ys x order.1 e)
    where
      by : (b : Bool) → is_of t y ≡ b → cond b (Some y) (find (is_of t) ys) ≡ Some x → (find (is_of t) ys ≡ Some x → filter (is_of t) ys ≡ x ∷ []) → cond b (y ∷ filter (is_of t) ys) (filter (is_of t) ys) ≡ x ∷ []
      by true is e rest =
          let own : y ≡ x = cc (e) in
          let here : tenant y ≡ t = eqb-true (tenant y) t is in
          (λ i. own i ∷ none_of t ys (subst (λ u. AllByRecursion (λ z. u < tenant z) ys) here (later y ys order.0)) i)
      by false is e rest = rest e

  -- the rows of what is found of a tenant are those of all of its items
  pub rows-of-one : (rows : Option T → List Row) (r : T → List Row) (t : ℕ) (xs : List T) → IsAscending nat_cmp tenant xs → ((x : T) → rows (Some x) ≡ r x ++ []) → is_some (find (is_of t) xs) ≡ true → rows (find (is_of t) xs) ≡ each r (filter (is_of t) xs)
  rows-of-one rows r t xs order same there = by (find (is_of t) xs) refl there
    where
      by : (o : Option T) → find (is_of t) xs ≡ o → is_some o ≡ true → rows o ≡ each r (filter (is_of t) xs)
      by None found e = absurd (false≢true e)
      by (Some x) found e = same x ∙ ap (each r) (sym (one_of t xs x order found))

  -- ---- what is known of lists in order

  pub rises : {K : Type 0} (cmp : K → K → Ordering) (key : T → K) → ((x y : T) → cmp (key x) (key y) ≡ Less → tenant x ≤ tenant y) → (xs : List T) → IsAscending cmp key xs → Rise xs
  unfolding IsStrictlySortedBy
  rises cmp key low [] up = tt
  rises cmp key low (x ∷ xs) up = (not_before xs up.0, rises cmp key low xs up.1)
    where
      not_before : (ys : List T) → AllByRecursion (λ k. cmp (key x) k ≡ Less) (map key ys) → AllByRecursion (λ y. tenant x ≤ tenant y) ys
      not_before [] all = tt
      not_before (y ∷ ys) all = (low x y all.0, not_before ys all.1)

  tenant_in : (t : ℕ) (xs : List TenantItem) → list_any (λ x. x.tenant == t) xs ≡ true → Held t (map (λ x. x.tenant) xs)
  tenant_in t [] any = absurd (false≢true any)
  tenant_in t (x ∷ xs) any = by (x.tenant == t) refl any (tenant_in t xs)
    where
      by : (b : Bool) → (x.tenant == t) ≡ b → (b || list_any (λ y. y.tenant == t) xs) ≡ true → (list_any (λ y. y.tenant == t) xs ≡ true → Held t (map (λ y. y.tenant) xs)) → Held t (x.tenant ∷ map (λ y. y.tenant) xs)
      by true is e rest = inl (sym (eqb-true x.tenant t is))
      by false is e rest = inr (rest e)

  pub are-of : (lists : Lists) (xs : List T) → list_all (λ x. has_tenant lists (tenant x)) xs ≡ true → AreOf (tenant_ids lists) xs
  are-of lists [] all = tt
  are-of lists (x ∷ xs) all =
      let both = and_parts (has_tenant lists (tenant x)) (list_all (λ y. has_tenant lists (tenant y)) xs) all in
      (tenant_in (tenant x) lists.tenants both.0, are-of lists xs both.1)
