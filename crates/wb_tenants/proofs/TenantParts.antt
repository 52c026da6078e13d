-- An item that is put into the lists of all tenants is put into its tenant's part alone.
use Rattle.std.proofs.Common.{◌≡◌, ◌≢◌, ℕ, ◌<◌, ◌≤◌, ◌==◌, Bool, false, List, [], ◌∷◌, map, cond, filter, inl, inr, refl, sym, ap, ◌∙◌, arith}
use Rattle.std.proofs.lemmas.Bool.{cases_Bool, eq-eqb, eqb-true}
use Rattle.std.specs.declared.cmp.Ordering.{Ordering}
use Rattle.std.specs.declared.cmp.Ordering.TheVariants.{Less, Equal, Greater}
use Rattle.std.specs.Cmp.{ranks}
use Rattle.std.specs.List.{AllByRecursion}
use Rattle.std.specs.List.Sorted.{IsStrictlySortedBy}
use Rattle.std.specs.Ordering.{nat_cmp, match_ordering, ordering_then, MatchOrdering}
use Rattle.wb_list.specs.Keyed.{IsAscending, insert_item}
use Rattle.wb_setup.specs.Keys.{key_cmp}

pub other : (a b : ℕ) → a ≢ b → (a == b) ≡ false
other a b ne = elim (cases_Bool (a == b)) [
  | inl is ↦ absurd (ne (eqb-true a b is))
  | inr not ↦ not
]

not_less : Greater ≡ Less → ⊥
not_less e = absurd cc

-- a key that is below another is of a tenant that is not above the other's
not_above : (a b : ℕ) (o : Ordering) → ordering_then (nat_cmp a b) o ≡ Less → a ≤ b
not_above a b o less = elim (nat_cmp a b) as (λ r. MatchOrdering r (a < b) (a ≡ b) (b < a) → ordering_then r o ≡ Less → a ≤ b) [
  | Less ↦ λ h e. omega (arith, h)
  | Equal ↦ λ h e. omega (arith, h)
  | Greater ↦ λ h e. absurd (not_less e)
] (ranks a b) less

module _ {T : Type 0} (tenant id : T → ℕ) where
  abbrev pub place : T → ℕ × ℕ
  place x = (tenant x, id x)

  abbrev pub is_of : ℕ → T → Bool
  is_of t x = tenant x == t

  none_after : (t : ℕ) (y : T) (xs : List T) → t < tenant y → AllByRecursion (λ q. key_cmp (place y) q ≡ Less) (map place xs) → filter (is_of t) xs ≡ []
  none_after t y [] above all = refl
  none_after t y (x ∷ xs) above all =
      let up = not_above (tenant y) (tenant x) (nat_cmp (id y) (id x)) all.0 in
      rw (other (tenant x) t (λ e. omega (arith, above, up, e))) (none_after t y xs above all.1)

  -- in its own part it takes its place
  pub part-inserted : (xs : List T) (x : T) → IsAscending key_cmp place xs → filter (is_of (tenant x)) (insert_item key_cmp place xs x) ≡ insert_item nat_cmp id (filter (is_of (tenant x)) xs) x
  unfolding IsStrictlySortedBy
  part-inserted [] x sorted = rw (eq-eqb (tenant x) (tenant x) refl) refl
  part-inserted (y ∷ ys) x sorted =
      let itself = eq-eqb (tenant x) (tenant x) refl in
      elim (nat_cmp (tenant y) (tenant x)) as (λ r. MatchOrdering r (tenant y < tenant x) (tenant y ≡ tenant x) (tenant x < tenant y)
      → filter (is_of (tenant x)) (match_ordering (ordering_then r (nat_cmp (id y) (id x))) (y ∷ insert_item key_cmp place ys x) (x ∷ ys) (x ∷ y ∷ ys)) ≡ insert_item nat_cmp id (filter (is_of (tenant x)) (y ∷ ys)) x) [
        | Less ↦ λ h. rw (other (tenant y) (tenant x) (λ e. omega (arith, h, e))) (part-inserted ys x sorted.1)
        | Equal ↦ λ h. elim (nat_cmp (id y) (id x)) as (λ o. nat_cmp (id y) (id x) ≡ o
            → filter (is_of (tenant x)) (match_ordering o (y ∷ insert_item key_cmp place ys x) (x ∷ ys) (x ∷ y ∷ ys)) ≡ insert_item nat_cmp id (filter (is_of (tenant x)) (y ∷ ys)) x) [
              | Less ↦ λ e. rw (eq-eqb (tenant y) (tenant x) h, e) (ap (λ l. y ∷ l) (part-inserted ys x sorted.1))
              | Equal ↦ λ e. rw (eq-eqb (tenant y) (tenant x) h, itself, e) refl
              | Greater ↦ λ e. rw (eq-eqb (tenant y) (tenant x) h, itself, e) refl
            ] refl
        | Greater ↦ λ h. rw (itself, other (tenant y) (tenant x) (λ e. omega (arith, h, e)), none_after (tenant x) y ys h sorted.0) refl
      ] (ranks (tenant y) (tenant x))

  -- and every other part is as it was
  pub part-beside : (t : ℕ) (xs : List T) (x : T) → tenant x ≢ t → filter (is_of t) (insert_item key_cmp place xs x) ≡ filter (is_of t) xs
  part-beside t [] x ne = rw (other (tenant x) t ne) refl
  part-beside t (y ∷ ys) x ne =
      elim (nat_cmp (tenant y) (tenant x)) as (λ r. MatchOrdering r (tenant y < tenant x) (tenant y ≡ tenant x) (tenant x < tenant y)
      → filter (is_of t) (match_ordering (ordering_then r (nat_cmp (id y) (id x))) (y ∷ insert_item key_cmp place ys x) (x ∷ ys) (x ∷ y ∷ ys)) ≡ filter (is_of t) (y ∷ ys)) [
        | Less ↦ λ h. ap (λ l. cond (is_of t y) (y ∷ l) l) (part-beside t ys x ne)
        | Equal ↦ λ h. elim (nat_cmp (id y) (id x)) as (λ o. filter (is_of t) (match_ordering o (y ∷ insert_item key_cmp place ys x) (x ∷ ys) (x ∷ y ∷ ys)) ≡ filter (is_of t) (y ∷ ys)) [
          | Less ↦ ap (λ l. cond (is_of t y) (y ∷ l) l) (part-beside t ys x ne)
          | Equal ↦ rw (other (tenant x) t ne, other (tenant y) t (λ e. ne (sym h ∙ e))) refl
          | Greater ↦ rw (other (tenant x) t ne) refl
        ]
        | Greater ↦ λ h. rw (other (tenant x) t ne) refl
      ] (ranks (tenant y) (tenant x))
