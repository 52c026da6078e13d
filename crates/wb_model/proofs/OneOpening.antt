-- An opening is told by its moment, its tenants and their tables: all else that it holds is known of these.
use Rattle.std.proofs.Common.{◌≡◌, ℕ, Bool, true, List, [], ◌∷◌, Option, Some, None, refl, sym, ◌∙◌, subst}
use Rattle.std.specs.Prelude.{find}
use Rattle.std.proofs.Math.Bool.{Bool-set}
use Rattle.std.proofs.Math.Bridge.{le_prop}
use Rattle.std.proofs.Math.Path.{PathP, to_path_p, fun_ext, path_j}
use Rattle.wb_model.specs.declared.registry.ContextItem.{ContextItem}
use Rattle.wb_model.specs.declared.registry.FormItem.{FormItem}
use Rattle.wb_model.specs.Tables.{Registry, has_receipt, Case}
use Rattle.wb_model.specs.Host.{Tables}
use Rattle.wb_model.specs.Legal.{ascends, AreSound, AreLegal, Reckoning, reckoning}
use Rattle.wb_model.specs.Opened.{Ascend, AtMost, AreVersions, Apart, HaveForms, AreBegunBy, AreOpened}
use Rattle.wb_model.specs.Pasts.{AllOpened}

unit_prop : IsProp (Unit {0})
unit_prop = λ x y. refl

ascend_prop : (k : ℕ) (cs : List Case) → IsProp (Ascend k cs)
ascend_prop k [] = unit_prop
ascend_prop k (c ∷ cs) = hlevel (le_prop, ascend_prop c.number cs)

most_prop : (k : ℕ) (cs : List Case) → IsProp (AtMost k cs)
most_prop k [] = unit_prop
most_prop k (c ∷ cs) = hlevel (le_prop, most_prop k cs)

begun_prop : (at : ℕ) (cs : List Case) → IsProp (AreBegunBy at cs)
begun_prop at [] = unit_prop
begun_prop at (c ∷ cs) = hlevel (le_prop, begun_prop at cs)

versions_prop : (xs : List FormItem) → IsProp (AreVersions xs)
versions_prop [] = unit_prop
versions_prop (x ∷ xs) = hlevel (le_prop, versions_prop xs)

contexts_prop : (cs : List ContextItem) → IsProp (AreSound cs)
contexts_prop [] = unit_prop
contexts_prop (c ∷ cs) = hlevel (le_prop, Bool-set, contexts_prop cs)

legal_prop : (days : Reckoning) (time : ℕ) (cs : List Case) → IsProp (AreLegal days time cs)
legal_prop days time [] = unit_prop
legal_prop days time (c ∷ cs) = hlevel (le_prop, Bool-set, legal_prop days time cs)

forms_prop : (forms : List FormItem) (cs : List Case) → IsProp (HaveForms forms cs)
forms_prop forms [] = unit_prop
forms_prop forms (c ∷ cs) = hlevel (Bool-set, forms_prop forms cs)

-- ---- nothing is equal to nothing in one way

abbrev Nothing : {X : Type 0} → Option X → Type 0
Nothing None = Unit {0}
Nothing (Some x) = ⊥

abbrev none_back : {X : Type 0} (o : Option X) → Nothing o → ◌≡◌ {A = Option X} None o
none_back None n = refl
none_back (Some x) n = absurd n

none_same : {X : Type 0} (o : Option X) (p : ◌≡◌ {A = Option X} None o) → none_back o (subst Nothing p tt) ≡ p
none_same {X} o p = path_j (λ (y : Option X) (q : ◌≡◌ {A = Option X} None y). none_back y (subst Nothing q tt) ≡ q) refl p

none_once : {X : Type 0} → IsProp (◌≡◌ {A = Option X} None None)
none_once {X} p q = sym (none_same None p) ∙ none_same None q

none_prop : {X : Type 0} (o : Option X) → IsProp (o ≡ None)
none_prop {X} o p q = subst (λ (x : Option X). IsProp (x ≡ None)) (sym p) none_once p q

abbrev Empty : {X : Type 0} → List X → Type 0
Empty [] = Unit {0}
Empty (x ∷ xs) = ⊥

abbrev empty_back : {X : Type 0} (xs : List X) → Empty xs → ◌≡◌ {A = List X} [] xs
empty_back [] n = refl
empty_back (x ∷ xs) n = absurd n

empty_same : {X : Type 0} (xs : List X) (p : ◌≡◌ {A = List X} [] xs) → empty_back xs (subst Empty p tt) ≡ p
empty_same {X} xs p = path_j (λ (y : List X) (q : ◌≡◌ {A = List X} [] y). empty_back y (subst Empty q tt) ≡ q) refl p

empty_once : {X : Type 0} → IsProp (◌≡◌ {A = List X} [] [])
empty_once {X} p q = sym (empty_same [] p) ∙ empty_same [] q

empty_prop : {X : Type 0} (xs : List X) → IsProp (xs ≡ [])
empty_prop {X} xs p q = subst (λ (x : List X). IsProp (x ≡ [])) (sym p) empty_once p q

-- ---- what an opening is known to be

apart_first : {K X : Type 0} (P : K → X → Bool) (xs : List X) (k : K) → IsProp (find (P k) xs ≡ None)
apart_first P xs k = none_prop (find (P k) xs)

apart_prop : {K X : Type 0} (P : K → X → Bool) (xs : List X) → IsProp (Apart P xs)
apart_prop P [] = unit_prop
apart_prop P (x ∷ xs) = hlevel (apart_first P xs, apart_prop P xs)

pub opened_prop : (at : ℕ) (t : Tables) → IsProp (AreOpened at t)
opened_prop at t =
    let g : Registry = t.plain.registry in
    let cs : List Case = t.plain.cases in
    hlevel (
      le_prop,
      Bool-set,
      contexts_prop g.contexts,
      versions_prop g.forms,
      ascend_prop 0 cs,
      most_prop t.plain.numbering.last cs,
      begun_prop t.plain.numbering.at cs,
      legal_prop (reckoning g.settings) at cs,
      forms_prop g.forms cs,
      apart_prop has_receipt cs,
      empty_prop t.plain.sessions,
    )

all_opened_prop : (at : ℕ) (tables : ℕ → Tables) → IsProp ((t : ℕ) → AreOpened at (tables t))
all_opened_prop at tables x y = fun_ext (λ t. opened_prop at (tables t) (x t) (y t))

-- what is known of both ends is a path between them
pub known_path : (A : 𝕀 → Type 0) (a : A 0) (b : A 1) → IsProp (A 1) → PathP A a b
known_path A a b known = to_path_p A {a = a} {b = b} (known (coe 0 1 (k. A k) a) b)

-- two openings at one moment, with the same tenants and tables, are one
pub one_opening : (o p : AllOpened) → o.at ≡ p.at → o.tenants ≡ p.tenants → ((t : ℕ) → o.tables t ≡ p.tables t) → o ≡ p
one_opening o p at ids tables = λ i. record {
  at = at i;
  tenants = ids i;
  ids = known_path (λ j. ascends (ids j) ≡ true) o.ids p.ids (Bool-set (ascends p.tenants) true) i;
  tables = all i;
  sound = known_path (λ j. (t : ℕ) → AreOpened (at j) (all j t)) o.sound p.sound (all_opened_prop p.at p.tables) i;
}
  where
    all : o.tables ≡ p.tables
    all = fun_ext tables
