-- The order of terms: it ties with their sameness, and the terms of a tenant up to a day are a run in it.
use Rattle.std.proofs.Common.{◌≡◌, ℕ, ℤ, Bool, true, false, ◌&&◌, List, [], ◌∷◌, cond, find, filter, nat_eq, Some, refl, sym, ap, ◌∙◌}
use Rattle.std.specs.declared.cmp.Ordering.{Ordering}
use Rattle.std.specs.declared.cmp.Ordering.TheVariants.{Less, Equal, Greater}
use Rattle.std.specs.Ordering.{is_eq, is_le, nat_cmp, int_cmp, int_eq, ordering_then, ordering_reverse}
use Rattle.std.specs.Cmp.{IsTotalOrder, nat_cmp_total, int_cmp_total, unsigned_ties}
use Rattle.std.proofs.lemmas.List.Elements.{filter_agree}
use Rattle.wb_list.specs.Keyed.{has_key, IsRun}
use Rattle.wb_base.specs.contracts.kind.KindOrd.TheImpl as kind_order
use Rattle.wb_base.specs.declared.kind.Kind.{Kind}
use Rattle.wb_base.specs.declared.kind.Kind.TheVariants.{Ack, Feedback, Expiry}
use Rattle.wb_terms.specs.contracts.term_index.TermOrd.TheImpl as term_order
use Rattle.wb_terms.specs.declared.term_index.Term.{Term}
use Rattle.wb_terms.specs.Index.{same_kind, same_term, is_up_to, side_of}

abbrev pub term_cmp : Term → Term → Ordering
term_cmp = term_order.cmp-value.it

abbrev kind_cmp : Kind → Kind → Ordering
kind_cmp = kind_order.cmp-value.it

kind_ties : (a b : Kind) → same_kind a b ≡ is_eq (kind_cmp a b)
kind_ties Ack Ack = refl
kind_ties Ack Feedback = refl
kind_ties Ack Expiry = refl
kind_ties Feedback Ack = refl
kind_ties Feedback Feedback = refl
kind_ties Feedback Expiry = refl
kind_ties Expiry Ack = refl
kind_ties Expiry Feedback = refl
kind_ties Expiry Expiry = refl

both_tie : (r s : Ordering) → (is_eq r && is_eq s) ≡ is_eq (ordering_then r s)
both_tie Less s = refl
both_tie Equal s = refl
both_tie Greater s = refl

both : (a b : Bool) (r s : Ordering) → a ≡ is_eq r → b ≡ is_eq s → (a && b) ≡ is_eq (ordering_then r s)
both a b r s p q = ap (λ c. c && b) p ∙ (ap (λ c. is_eq r && c) q ∙ both_tie r s)

term_ties : (t x : Term) → same_term t x ≡ is_eq (term_cmp x t)
term_ties t x =
    let numbers = both (nat_eq x.number t.number) (same_kind x.kind t.kind) (nat_cmp x.number t.number) (kind_cmp x.kind t.kind) (unsigned_ties x.number t.number) (kind_ties x.kind t.kind) in
    let days = both (int_eq x.day t.day) (nat_eq x.number t.number && same_kind x.kind t.kind) (int_cmp x.day t.day) (ordering_then (nat_cmp x.number t.number) (kind_cmp x.kind t.kind)) refl numbers in
    both (nat_eq x.tenant t.tenant) (int_eq x.day t.day && (nat_eq x.number t.number && same_kind x.kind t.kind)) (nat_cmp x.tenant t.tenant) (ordering_then (int_cmp x.day t.day) (ordering_then (nat_cmp x.number t.number) (kind_cmp x.kind t.kind))) (unsigned_ties x.tenant t.tenant) days

find-same : {X : Type 0} (p q : X → Bool) → ((x : X) → p x ≡ q x) → (xs : List X) → find p xs ≡ find q xs
find-same p q same [] = refl
find-same p q same (x ∷ xs) = rw (same x, find-same p q same xs) refl

pub term-found : (t : Term) (terms : List Term) → find (same_term t) terms ≡ find (has_key term_cmp (λ x. x) t) terms
term-found t terms = find-same (same_term t) (has_key term_cmp (λ x. x) t) (term_ties t) terms

-- what is found after a term was put in
pub term-after : (t term : Term) (old new : List Term) → find (has_key term_cmp (λ x. x) t) new ≡ cond (has_key term_cmp (λ x. x) t term) (Some term) (find (has_key term_cmp (λ x. x) t) old) → find (same_term t) new ≡ cond (same_term t term) (Some term) (find (same_term t) old)
term-after t term old new e =
    term-found t new
    ∙ (e ∙ sym (ap (λ b. cond b (Some term) (find (same_term t) old)) (term_ties t term)
    ∙ ap (λ found. cond (has_key term_cmp (λ x. x) t term) (Some term) found) (term-found t old)))

-- ---- the run of a tenant's terms up to a day

-- what is first in a compound order
not_above : (r s : Ordering) → ordering_then r s ≡ Less → r ≡ Greater → ⊥
not_above Less s e f = cc
not_above Equal s e f = cc
not_above Greater s e f = cc

rest_of : (r s : Ordering) → ordering_then r s ≡ Less → r ≡ Equal → s ≡ Less
rest_of Less s e f = cc
rest_of Equal s e f = e
rest_of Greater s e f = cc

first_below : (r : Ordering) (b : Bool) → ordering_then r (cond b Equal Greater) ≡ Less → r ≡ Less
first_below Less b e = refl
first_below Equal true e = cc
first_below Equal false e = cc
first_below Greater b e = cc

beyond : (r : Ordering) → cond (is_le r) Equal Greater ≡ Greater → r ≡ Greater
beyond Less e = cc
beyond Equal e = cc
beyond Greater e = refl

module _ {K : Type 0} {R : K → K → Ordering} (o : IsTotalOrder R) where
  turned_up : (a b : K) → R a b ≡ Less → R b a ≡ Greater
  turned_up a b e = o.antisymm b a ∙ ap ordering_reverse e

  turned_down : (a b : K) → R a b ≡ Greater → R b a ≡ Less
  turned_down a b e = o.antisymm b a ∙ ap ordering_reverse e

  still_below : (a b t : K) → (R a b ≡ Greater → ⊥) → R b t ≡ Less → R a t ≡ Less
  still_below a b t upto below =
      elim (R a b) as (λ r. R a b ≡ r → R a t ≡ Less) [
        | Less ↦ λ e. o.trans a b t e below
        | Equal ↦ λ e. o.congr a b t e ∙ below
        | Greater ↦ λ e. absurd (upto e)
      ] refl

  still_above : (a b t : K) → (R a b ≡ Greater → ⊥) → R a t ≡ Greater → R b t ≡ Greater
  still_above a b t upto above =
      elim (R a b) as (λ r. R a b ≡ r → R b t ≡ Greater) [
        | Less ↦ λ e. turned_up t b (o.trans t a b (turned_down a t above) e)
        | Equal ↦ λ e. sym (o.congr a b t e) ∙ above
        | Greater ↦ λ e. absurd (upto e)
      ] refl

before_up_to : (tenant : ℕ) (day : ℤ) (x y : Term) → term_cmp x y ≡ Less → side_of tenant day y ≡ Less → side_of tenant day x ≡ Less
before_up_to tenant day x y less side =
    let below = first_below (nat_cmp y.tenant tenant) (is_le (int_cmp y.day day)) side in
    rw (still_below nat_cmp_total x.tenant y.tenant tenant (not_above (nat_cmp x.tenant y.tenant) _ less) below) refl

-- a later term of the same tenant, after the day
later_day : (tenant : ℕ) (day : ℤ) (x y : Term) → term_cmp x y ≡ Less → nat_cmp x.tenant y.tenant ≡ Equal → nat_cmp x.tenant tenant ≡ Equal → int_cmp x.day day ≡ Greater → side_of tenant day y ≡ Greater
later_day tenant day x y less same here above =
    let rest = rest_of (nat_cmp x.tenant y.tenant) _ less same in
    let there : nat_cmp y.tenant tenant ≡ Equal = sym (nat_cmp_total.congr x.tenant y.tenant tenant same) ∙ here in
    rw (there, still_above int_cmp_total x.day y.day day (not_above (int_cmp x.day y.day) _ rest) above) refl

after_up_to : (tenant : ℕ) (day : ℤ) (x y : Term) → term_cmp x y ≡ Less → side_of tenant day x ≡ Greater → side_of tenant day y ≡ Greater
after_up_to tenant day x y less side =
    elim (nat_cmp x.tenant tenant) as (λ r. nat_cmp x.tenant tenant ≡ r → ordering_then r (cond (is_le (int_cmp x.day day)) Equal Greater) ≡ Greater → side_of tenant day y ≡ Greater) [
      | Less ↦ λ here e. absurd (cc)
      | Equal ↦ λ here e.
          elim (nat_cmp x.tenant y.tenant) as (λ r. nat_cmp x.tenant y.tenant ≡ r → side_of tenant day y ≡ Greater) [
            | Less ↦ λ f. rw (turned_up nat_cmp_total tenant y.tenant (sym (nat_cmp_total.congr x.tenant tenant y.tenant here) ∙ f)) refl
            | Equal ↦ λ f. later_day tenant day x y less f here (beyond (int_cmp x.day day) e)
            | Greater ↦ λ f. absurd (not_above (nat_cmp x.tenant y.tenant) _ less f)
          ] refl
      | Greater ↦ λ here e. rw (still_above nat_cmp_total x.tenant y.tenant tenant (not_above (nat_cmp x.tenant y.tenant) _ less) here) refl
    ] refl side

pub up-to-run : (tenant : ℕ) (day : ℤ) → IsRun term_cmp (λ x. x) (side_of tenant day)
up-to-run tenant day = record { before = before_up_to tenant day; after = after_up_to tenant day }

eq_of_cond : (b : Bool) → b ≡ is_eq (cond b Equal Greater)
eq_of_cond true = refl
eq_of_cond false = refl

up_to_ties : (tenant : ℕ) (day : ℤ) (x : Term) → is_eq (side_of tenant day x) ≡ is_up_to tenant day x
up_to_ties tenant day x =
    let upto = is_le (int_cmp x.day day) in
    sym (both (nat_eq x.tenant tenant) upto (nat_cmp x.tenant tenant) (cond upto Equal Greater) (unsigned_ties x.tenant tenant) (eq_of_cond upto))

pub run-is : (tenant : ℕ) (day : ℤ) (terms : List Term) → filter (λ x. is_eq (side_of tenant day x)) terms ≡ filter (is_up_to tenant day) terms
run-is tenant day terms = filter_agree (λ x. is_eq (side_of tenant day x)) (is_up_to tenant day) (up_to_ties tenant day) terms
