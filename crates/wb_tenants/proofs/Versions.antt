-- A version of a form is found by its place.
use Rattle.std.proofs.Common.{◌≡◌, ℕ, ◌+◌, ◌*◌, ◌==◌, ◌&&◌, Bool, true, List, [], ◌∷◌, map, find, filter, None, option_and_then, refl, sym, ap, subst, ◌∙◌, inl, inr}
use Rattle.std.proofs.lemmas.Bool.{cases_Bool, and_parts, eqb-true, eq-eqb, false≢true}
use Rattle.std.specs.Cmp.{both_tied, unsigned_ties, nat_cmp_is}
use Rattle.std.specs.List.{AllByRecursion}
use Rattle.std.specs.List.Sorted.{IsStrictlySortedBy}
use Rattle.std.specs.declared.cmp.Ordering.TheVariants.{Less, Equal}
use Rattle.wb_base.specs.FormShape.{keep}
use Rattle.wb_list.specs.Keyed.{IsAscending, has_key}
use Rattle.wb_model.specs.declared.registry.FormItem.{FormItem}
use Rattle.wb_model.specs.Settings.{form_key}
use Rattle.wb_setup.specs.Keys.{Key, key_cmp, version_key}
use Rattle.wb_tenants.specs.Sets.{is_version, version_of}
use Rattle.wb_tenants.proofs.LookUps.{find-part}

abbrev is_there : ℕ → ℕ → ℕ → FormItem → Bool
is_there t id v x = (x.tenant == t) && is_version id v x

abbrev is_placed : ℕ → ℕ → ℕ → FormItem → Bool
is_placed t id v x = has_key key_cmp version_key (t, id * 100 + v) x

-- the version is at its place
placed : (t id v : ℕ) (x : FormItem) → is_there t id v x ≡ true → version_key x ≡ (t, id * 100 + v)
placed t id v x is =
    let a = and_parts (x.tenant == t) (is_version id v x) is in
    let b = and_parts (x.id == id) (x.version == v) a.1 in
    rw (eqb-true x.tenant t a.0, eqb-true x.id id b.0, eqb-true x.version v b.1) refl

tied : (t id v : ℕ) (x : FormItem) → ((x.tenant == t) && (form_key x == id * 100 + v)) ≡ is_placed t id v x
tied t id v x = both_tied _ _ _ _ (unsigned_ties x.tenant t) (unsigned_ties (form_key x) (id * 100 + v))

placed_there : (t id v : ℕ) (x : FormItem) → is_there t id v x ≡ true → ((x.tenant == t) && (form_key x == id * 100 + v)) ≡ true
placed_there t id v x is =
    let at' = placed t id v x is in
    rw (eq-eqb x.tenant t (ap (λ (k : Key). k.0) at'), eq-eqb (form_key x) (id * 100 + v) (ap (λ (k : Key). k.1) at')) refl

itself : (p : Key) → key_cmp p p ≡ Equal
itself p = rw (← nat_cmp_is p.0 p.0 Equal refl, ← nat_cmp_is p.1 p.1 Equal refl) refl

never : (p : Key) → key_cmp p p ≡ Less → ⊥
never p less = absurd (cc (itself p, less))

none_after : (t id v : ℕ) (k : Key) (ys : List FormItem) → k ≡ (t, id * 100 + v) → AllByRecursion (λ q. key_cmp k q ≡ Less) (map version_key ys) → find (is_there t id v) ys ≡ None
none_after t id v k [] here below = refl
none_after t id v k (z ∷ zs) here below = elim (cases_Bool (is_there t id v z)) [
  | inl is ↦ absurd (never k (subst (λ q. key_cmp k q ≡ Less) (placed t id v z is ∙ sym here) below.0))
  | inr no' ↦ rw no' (none_after t id v k zs here below.1)
]

found : (t id v : ℕ) (xs : List FormItem) → IsAscending key_cmp version_key xs → option_and_then (keep (is_version id v)) (find (is_placed t id v) xs) ≡ find (is_there t id v) xs
unfolding IsStrictlySortedBy
found t id v [] sorted = refl
found t id v (y ∷ ys) sorted = elim (cases_Bool (is_placed t id v y)) [
  | inl at' ↦
      let parts = and_parts (y.tenant == t) (form_key y == id * 100 + v) (tied t id v y ∙ at') in
      let here : version_key y ≡ (t, id * 100 + v) = rw (eqb-true y.tenant t parts.0, eqb-true (form_key y) (id * 100 + v) parts.1) refl in
      elim (cases_Bool (is_version id v y)) [
        | inl is ↦ rw (at', is, parts.0) refl
        | inr no' ↦ rw (at', no', parts.0) (sym (none_after t id v (version_key y) ys here sorted.0))
      ]
  | inr off ↦ elim (cases_Bool (is_there t id v y)) [
    | inl is ↦ absurd (false≢true (sym off ∙ (sym (tied t id v y) ∙ placed_there t id v y is)))
    | inr no' ↦ rw (off, no') (found t id v ys sorted.1)
  ]
]

pub version-found : (xs : List FormItem) (t id v : ℕ) → IsAscending key_cmp version_key xs → option_and_then (keep (is_version id v)) (find (has_key key_cmp version_key (t, id * 100 + v)) xs) ≡ version_of id v (filter (λ x. x.tenant == t) xs)
version-found xs t id v sorted = found t id v xs sorted ∙ find-part (is_version id v) (λ (x : FormItem). x.tenant == t) xs
