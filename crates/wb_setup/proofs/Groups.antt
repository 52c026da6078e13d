-- Items of tenants, one tenant's after another's: which are apart, and which tests they pass.
use Rattle.std.proofs.Common.{◌≡◌, ◌⊎◌, ℕ, ◌==◌, ◌&&◌, ◌||◌, not, Bool, true, false, List, [], ◌∷◌, ◌++◌, map, flat_map, refl, sym, ap, ◌∙◌, inl, inr, eqb-true, eq-eqb, ne_eqb}
use Rattle.std.proofs.lemmas.Bool.{and_parts, and_from, or_parts, or_from, or_left, or_right, not_from_false, not-true, cases_eq}
use Rattle.std.proofs.lemmas.List.Folds.{list_any-append, list_all-append}
use Rattle.std.specs.Cmp.{both_tied, unsigned_ties}
use Rattle.std.specs.List.{list_any, list_all, AllByRecursion}
use Rattle.wb_model.specs.SetUps.{are_apart}
use Rattle.wb_setup.specs.declared.given.GivenTenant.{GivenTenant}
use Rattle.wb_setup.specs.Rules.{same_tenant}
use Rattle.wb_setup.proofs.Orders.{key, key_total}
use Rattle.wb_setup.proofs.Puts.{same_key}

-- ---- what is so of each

pub all_by : {X : Type 0} (P : X → Bool) (xs : List X) → list_all P xs ≡ true → AllByRecursion (λ x. P x ≡ true) xs
all_by P [] all = tt
all_by P (x ∷ xs) all = let parts = and_parts (P x) (list_all P xs) all in (parts.0, all_by P xs parts.1)

pub all_with : {X : Type 0} (P Q : X → Type 0) (xs : List X) → AllByRecursion P xs → AllByRecursion Q xs → AllByRecursion (λ x. P x × Q x) xs
all_with P Q [] p q = tt
all_with P Q (x ∷ xs) p q = ((p.0, q.0), all_with P Q xs p.1 q.1)

pub all_so : {X : Type 0} (P : X → Type 0) (Q : X → Bool) → ((x : X) → P x → Q x ≡ true) → (xs : List X) → AllByRecursion P xs → list_all Q xs ≡ true
all_so P Q h [] all = refl
all_so P Q h (x ∷ xs) all = and_from (Q x) (list_all Q xs) (h x all.0) (all_so P Q h xs all.1)

pub all_pass : {X : Type 0} (P Q : X → Bool) → ((x : X) → P x ≡ true → Q x ≡ true) → (xs : List X) → list_all P xs ≡ true → list_all Q xs ≡ true
all_pass P Q h xs all = all_so (λ x. P x ≡ true) Q h xs (all_by P xs all)

pub all_passed : {X Y : Type 0} (f : X → Y) (P : X → Bool) (Q : Y → Bool) → ((x : X) → P x ≡ true → Q (f x) ≡ true) → (xs : List X) → list_all P xs ≡ true → list_all Q (map f xs) ≡ true
all_passed f P Q h [] all = refl
all_passed f P Q h (x ∷ xs) all = let parts = and_parts (P x) (list_all P xs) all in and_from (Q (f x)) (list_all Q (map f xs)) (h x parts.0) (all_passed f P Q h xs parts.1)

pub any_passed : {X Y : Type 0} (f : X → Y) (P : X → Bool) (Q : Y → Bool) → ((x : X) → P x ≡ true → Q (f x) ≡ true) → (xs : List X) → list_any P xs ≡ true → list_any Q (map f xs) ≡ true
any_passed f P Q h [] some = some
any_passed f P Q h (x ∷ xs) some = by (P x) refl some (λ e. any_passed f P Q h xs e)
  where
    by : (b : Bool) → P x ≡ b → (b || list_any P xs) ≡ true → (list_any P xs ≡ true → list_any Q (map f xs) ≡ true) → (Q (f x) || list_any Q (map f xs)) ≡ true
    by true is e rest = or_left (Q (f x)) (list_any Q (map f xs)) (h x is)
    by false is e rest = or_right (Q (f x)) (list_any Q (map f xs)) (rest e)

-- it is one of these
abbrev pub IsOneOf : {X : Type 0} → List X → X → Type 0
IsOneOf {X} xs x = (P : X → Bool) → P x ≡ true → list_any P xs ≡ true

one_more : {X : Type 0} (x : X) (xs ys : List X) → AllByRecursion (IsOneOf xs) ys → AllByRecursion (IsOneOf (x ∷ xs)) ys
one_more x xs [] all = tt
one_more x xs (y ∷ ys) all = ((λ P is. or_right (P x) (list_any P xs) (all.0 P is)), one_more x xs ys all.1)

-- each of a list is one of it
pub each_one : {X : Type 0} (xs : List X) → AllByRecursion (IsOneOf xs) xs
each_one [] = tt
each_one (x ∷ xs) = ((λ P is. or_left (P x) (list_any P xs) is), one_more x xs xs (each_one xs))

pub eq_back : (a b : ℕ) → (a == b) ≡ (b == a)
eq_back a b = by (cases_eq a b)
  where
    by : (a ≡ b) ⊎ (a ≡ b → ⊥) → (a == b) ≡ (b == a)
    by (inl is) = eq-eqb a b is ∙ sym (eq-eqb b a (sym is))
    by (inr ne) = ne_eqb a b ne ∙ sym (ne_eqb b a (λ e. ne (sym e)))

-- ---- which are apart

apart_append : {T : Type 0} (same : T → T → Bool) (xs ys : List T) → are_apart same xs ≡ true → are_apart same ys ≡ true → AllByRecursion (λ x. list_any (same x) ys ≡ false) xs → are_apart same (xs ++ ys) ≡ true
apart_append same [] ys a b other = b
apart_append same (x ∷ xs) ys a b other =
    let parts = and_parts (not (list_any (same x) xs)) (are_apart same xs) a in
    and_from _ (are_apart same (xs ++ ys)) (not_from_false _ (list_any-append (same x) xs ys ∙ or_from (list_any (same x) xs) (list_any (same x) ys) (not-true _ parts.0) other.0)) (apart_append same xs ys parts.1 b other.1)

none_map : {X T : Type 0} (f : X → T) (p : X → Bool) (q : T → Bool) → ((x : X) → q (f x) ≡ p x) → (xs : List X) → list_any p xs ≡ false → list_any q (map f xs) ≡ false
none_map f p q alike [] none = refl
none_map f p q alike (x ∷ xs) none = let parts = or_parts (p x) (list_any p xs) none in or_from (q (f x)) (list_any q (map f xs)) (alike x ∙ parts.0) (none_map f p q alike xs parts.1)

-- what was apart before a change of each that the test does not see is apart after it
pub apart_map : {X T : Type 0} (f : X → T) (same : X → X → Bool) (same' : T → T → Bool) → ((x y : X) → same' (f x) (f y) ≡ same x y) → (xs : List X) → are_apart same xs ≡ true → are_apart same' (map f xs) ≡ true
apart_map f same same' alike [] apart = refl
apart_map f same same' alike (x ∷ xs) apart =
    let parts = and_parts (not (list_any (same x) xs)) (are_apart same xs) apart in
    and_from _ (are_apart same' (map f xs)) (not_from_false _ (none_map f (same x) (same' (f x)) (alike x) xs (not-true _ parts.0))) (apart_map f same same' alike xs parts.1)

module _ {T : Type 0} (tenant : T → ℕ) where
  -- things of two tenants are not the same
  abbrev pub IsOwn : (T → T → Bool) → Type 0
  IsOwn same = (x y : T) → (tenant x == tenant y) ≡ false → same x y ≡ false

  abbrev pub are_of : ℕ → List T → Bool
  are_of t xs = list_all (λ x. tenant x == t) xs

module _ {T : Type 0} (tenant : T → ℕ) (items : GivenTenant → List T) (mine : (t : GivenTenant) → are_of tenant t.id (items t) ≡ true) (same : T → T → Bool) (own : IsOwn tenant same) where
  none_in : (x : T) (t s : ℕ) → (tenant x == t) ≡ true → (t == s) ≡ false → (ys : List T) → are_of tenant s ys ≡ true → list_any (same x) ys ≡ false
  none_in x t s here off [] theirs = refl
  none_in x t s here off (y ∷ ys) theirs =
      let parts = and_parts (tenant y == s) (are_of tenant s ys) theirs in
      let apart : (tenant x == tenant y) ≡ false = rw (eqb-true (tenant x) t here, eqb-true (tenant y) s parts.0) off in
      or_from (same x y) (list_any (same x) ys) (own x y apart) (none_in x t s here off ys parts.1)

  none_beside : (x : T) (t : GivenTenant) → (tenant x == t.id) ≡ true → (ts : List GivenTenant) → list_any (same_tenant t) ts ≡ false → list_any (same x) (flat_map items ts) ≡ false
  none_beside x t here [] none = refl
  none_beside x t here (s ∷ ss) none =
      let parts = or_parts (same_tenant t s) (list_any (same_tenant t) ss) none in
      list_any-append (same x) (items s) (flat_map items ss) ∙ or_from (list_any (same x) (items s)) (list_any (same x) (flat_map items ss)) (none_in x t.id s.id here parts.0 (items s) (mine s)) (none_beside x t here ss parts.1)

  all_beside : (t : GivenTenant) (ts : List GivenTenant) → list_any (same_tenant t) ts ≡ false → (xs : List T) → are_of tenant t.id xs ≡ true → AllByRecursion (λ x. list_any (same x) (flat_map items ts) ≡ false) xs
  all_beside t ts none [] here = tt
  all_beside t ts none (x ∷ xs) here =
      let parts = and_parts (tenant x == t.id) (are_of tenant t.id xs) here in
      (none_beside x t parts.0 ts none, all_beside t ts none xs parts.1)

  -- things that are apart in each of several tenants are apart in all
  pub apart_all : (ts : List GivenTenant) → are_apart same_tenant ts ≡ true → list_all (λ t. are_apart same (items t)) ts ≡ true → are_apart same (flat_map items ts) ≡ true
  apart_all [] ids each = refl
  apart_all (t ∷ ts) ids each =
      let others = and_parts (not (list_any (same_tenant t) ts)) (are_apart same_tenant ts) ids in
      let parts = and_parts (are_apart same (items t)) (list_all (λ s. are_apart same (items s)) ts) each in
      apart_append same (items t) (flat_map items ts) parts.0 (apart_all ts others.1 parts.1) (all_beside t ts (not-true _ others.0) (items t) (mine t))

module _ {T : Type 0} (items : GivenTenant → List T) where
  pub all_flat : (P : T → Bool) (ts : List GivenTenant) → list_all (λ t. list_all P (items t)) ts ≡ true → list_all P (flat_map items ts) ≡ true
  all_flat P [] all = refl
  all_flat P (t ∷ ts) all =
      let parts = and_parts (list_all P (items t)) (list_all (λ s. list_all P (items s)) ts) all in
      list_all-append P (items t) (flat_map items ts) ∙ and_from (list_all P (items t)) (list_all P (flat_map items ts)) parts.0 (all_flat P ts parts.1)

  pub any_flat : (P : T → Bool) (ts : List GivenTenant) → list_any (λ t. list_any P (items t)) ts ≡ true → list_any P (flat_map items ts) ≡ true
  any_flat P [] some = some
  any_flat P (t ∷ ts) some = by (list_any P (items t)) refl some (λ e. any_flat P ts e)
    where
      by : (b : Bool) → list_any P (items t) ≡ b → (b || list_any (λ s. list_any P (items s)) ts) ≡ true → (list_any (λ s. list_any P (items s)) ts ≡ true → list_any P (flat_map items ts) ≡ true) → list_any P (items t ++ flat_map items ts) ≡ true
      by true is e rest = list_any-append P (items t) (flat_map items ts) ∙ or_left (list_any P (items t)) (list_any P (flat_map items ts)) is
      by false is e rest = list_any-append P (items t) (flat_map items ts) ∙ or_right (list_any P (items t)) (list_any P (flat_map items ts)) (rest e)

-- ---- keys of a tenant's things

module _ {T : Type 0} (tenant id : T → ℕ) where
  pub key_ties : (x y : T) → same_key key_total (key tenant id) x y ≡ ((tenant y == tenant x) && (id y == id x))
  key_ties x y = sym (both_tied _ _ _ _ (unsigned_ties (tenant y) (tenant x)) (unsigned_ties (id y) (id x)))

  pub own_keys : IsOwn tenant (same_key key_total (key tenant id))
  own_keys x y off = key_ties x y ∙ ap (λ b. b && (id y == id x)) (eq_back (tenant y) (tenant x) ∙ off)

  -- in one tenant they have the same key where they have the same id
  pub same_ids : (x y : T) → (tenant y == tenant x) ≡ true → same_key key_total (key tenant id) x y ≡ (id x == id y)
  same_ids x y here = key_ties x y ∙ (ap (λ b. b && (id y == id x)) here ∙ eq_back (id y) (id x))
