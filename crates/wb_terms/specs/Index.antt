-- Terms in the order of tenant, day, number and kind, and which are due.
use Rattle.std.specs.Prelude.{ℕ, ℤ, ◌==◌, ◌&&◌, Bool, true, false, List, map, filter, find, Option, if◌then◌else◌}
use Rattle.std.specs.Ordering.{nat_cmp, int_cmp, int_eq, is_le, ordering_then}
use Rattle.std.specs.declared.cmp.Ordering.{Ordering}
use Rattle.std.specs.declared.cmp.Ordering.TheVariants as sides
use Rattle.wb_base.specs.declared.kind.Kind.{Kind}
use Rattle.wb_base.specs.declared.kind.Kind.TheVariants.{Ack, Feedback, Expiry}
use Rattle.wb_terms.specs.declared.term_index.Term.{Term}

-- two kinds are the same
abbrev pub same_kind : Kind → Kind → Bool
same_kind Ack Ack = true
same_kind Feedback Feedback = true
same_kind Expiry Expiry = true
same_kind _ _ = false

-- two terms are the same
abbrev pub same_term : Term → Term → Bool
same_term term other = (other.tenant == term.tenant) && (int_eq other.day term.day && ((other.number == term.number) && same_kind other.kind term.kind))

-- a term is the tenant's, at or before the day
abbrev pub is_up_to : ℕ → ℤ → Term → Bool
is_up_to tenant day term = (term.tenant == tenant) && is_le (int_cmp term.day day)

-- the first of the terms that is of a kind
abbrev pub first_of : Kind → List Term → Option Term
first_of kind terms = find (λ term. same_kind term.kind kind) terms

-- the numbers of the terms of a kind, in the order of the terms
abbrev pub numbers_of : Kind → List Term → List ℕ
numbers_of kind terms = map (λ term. term.number) (filter (λ term. same_kind term.kind kind) terms)

-- the numbers of a kind among the tenant's terms at or before a day
abbrev pub numbers_up_to : ℕ → ℤ → Kind → List Term → List ℕ
numbers_up_to tenant day kind terms = numbers_of kind (filter (is_up_to tenant day) terms)

-- where a term lies to the tenant's terms at or before a day
abbrev pub side_of : ℕ → ℤ → Term → Ordering
side_of tenant day term = ordering_then (nat_cmp term.tenant tenant) (if is_le (int_cmp term.day day) then sides.Equal else sides.Greater)
