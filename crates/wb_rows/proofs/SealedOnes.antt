-- Identity answers that are put one after another, in the order of tenant and number.
use Rattle.std.proofs.Common.{◌≡◌, ◌≢◌, ◌⊎◌, inl, inr, ℕ, Bool, true, false, List, ◌∷◌, Some, None, refl, sym, ◌∙◌}
use Rattle.std.proofs.lemmas.Bool.Decides.{eqb_tells}
use Rattle.std.specs.Option.{option_or}
use Rattle.std.specs.Prelude.{◌==◌, ◌&&◌}
use Rattle.std.specs.List.Sorted.{IsStrictlySortedBy}
use Rattle.wb_custody.specs.declared.sealed.SealedItem.{SealedItem}
use Rattle.wb_custody.specs.SealedAnswers.{answers_of, is_of, pair_cmp, sealed_place}
use Rattle.wb_list.specs.Keyed.{IsAscending}
use Rattle.wb_rows.proofs.SealedRows.{none_there}

-- those that are left have none of the first one's place
alone : (x : SealedItem) (rest : List SealedItem) → IsAscending pair_cmp sealed_place (x ∷ rest) → answers_of rest x.tenant x.number ≡ None
unfolding IsStrictlySortedBy
alone x rest order = none_there (sealed_place x) rest order.0

pub rest-order : (x : SealedItem) (rest : List SealedItem) → IsAscending pair_cmp sealed_place (x ∷ rest) → IsAscending pair_cmp sealed_place rest
unfolding IsStrictlySortedBy
rest-order x rest order = order.1

-- what is left and what is put find together what they found before the first was put
pub one-put : (x : SealedItem) (rest old new : List SealedItem) → IsAscending pair_cmp sealed_place (x ∷ rest) → answers_of new x.tenant x.number ≡ Some x.answers → ((t n : ℕ) → (t ≢ x.tenant) ⊎ (n ≢ x.number) → answers_of new t n ≡ answers_of old t n)
    → (t n : ℕ) → option_or (answers_of rest t n) (answers_of new t n) ≡ option_or (answers_of (x ∷ rest) t n) (answers_of old t n)
one-put x rest old new order own others t n = by (eqb_tells x.tenant t) (eqb_tells x.number n)
  where
    apart : (b : Bool) → is_of t n x ≡ b → b ≡ false → (t ≢ x.tenant) ⊎ (n ≢ x.number) → option_or (answers_of rest t n) (answers_of new t n) ≡ option_or (answers_of (x ∷ rest) t n) (answers_of old t n)
    apart b is none other = rw (is, none, others t n other) refl

    off : (b : Bool) → (b && false) ≡ false
    off true = refl
    off false = refl

    by : (((x.tenant == t) ≡ true) × (x.tenant ≡ t)) ⊎ (((x.tenant == t) ≡ false) × (x.tenant ≢ t)) → (((x.number == n) ≡ true) × (x.number ≡ n)) ⊎ (((x.number == n) ≡ false) × (x.number ≢ n)) → option_or (answers_of rest t n) (answers_of new t n) ≡ option_or (answers_of (x ∷ rest) t n) (answers_of old t n)
    by (inl p) (inl q) =
        let found : answers_of new t n ≡ Some x.answers = (λ i. answers_of new (sym p.1 i) (sym q.1 i)) ∙ own in
        let none : answers_of rest t n ≡ None = (λ i. answers_of rest (sym p.1 i) (sym q.1 i)) ∙ alone x rest order in
        rw (found, none, p.0, q.0) refl
    by (inr p) q = apart (is_of t n x) refl (rw p.0 refl) (inl (λ e. p.1 (sym e)))
    by (inl p) (inr q) = apart (is_of t n x) refl (rw q.0 (off (x.tenant == t))) (inr (λ e. q.1 (sym e)))
