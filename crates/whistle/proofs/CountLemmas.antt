-- One more reply is counted.
use Rattle.std.proofs.Common.{◌≡◌, ◌≤◌, ℕ, suc, ◌+◌, Bool, true, false, cond, List, [], ◌∷◌, ◌++◌, Option, Some, length, length-append, refl, sym, ap, ◌∙◌, arith, add-one}
use Rattle.std.specs.Prelude.{◌==◌, filter, find}
use Rattle.std.specs.Cmp.{unsigned_tied}
use Rattle.std.specs.Ordering.{nat_cmp}
use Rattle.std.proofs.lemmas.List.Elements.{filter-append}
use Rattle.wb_list.specs.Keyed.{has_key}
use Rattle.wb_model.specs.Scripts.{Reply}
use Rattle.whistle.specs.declared.counting.StatusCount.{StatusCount}
use Rattle.whistle.specs.Counted.{has_status, times, row_of, IsCounted}

abbrev status_of : StatusCount → ℕ
status_of row = row.status

abbrev row : ℕ → ℕ → StatusCount
row status count = record { status = status; count = count }

one : (b : Bool) (r : Reply) → length (cond b (r ∷ []) []) ≡ cond b 1 0
one true r = refl
one false r = refl

times_more : (status : ℕ) (replies : List Reply) (r : Reply) → times status (replies ++ r ∷ []) ≡ times status replies + cond (r.told.status == status) 1 0
times_more status replies r =
    ap length (filter-append (has_status status) replies (r ∷ []))
    ∙ (length-append (filter (has_status status) replies) (filter (has_status status) (r ∷ [])) ∙ ap (λ n. times status replies + n) (one (r.told.status == status) r))

-- a status's row, where the replies have one more of this status or of another
row_by : (b : Bool) (status s m n : ℕ) (found : Option StatusCount) → (b ≡ true → status ≡ s) → (b ≡ true → m ≡ n) → found ≡ row_of s n → cond b (Some (row status (m + 1))) found ≡ row_of s (n + cond b 1 0)
row_by true status s m n found same equal is = rw (same refl, equal refl, add-one n) refl
row_by false status s m n found same equal is = is ∙ ap (row_of s) (omega arith)

-- the count is no more than there are replies
pub times_most : (status : ℕ) (replies : List Reply) → times status replies ≤ length replies
times_most status [] = omega arith
times_most status (r ∷ replies) = by (r.told.status == status) (times_most status replies)
  where
    by : (b : Bool) → times status replies ≤ length replies → length (cond b (r ∷ filter (has_status status) replies) (filter (has_status status) replies)) ≤ suc (length replies)
    by true h = omega (arith, h)
    by false h = omega (arith, h)

module _ (replies : List Reply) (old new : List StatusCount) (status count : ℕ) (is : count ≡ times status replies)
    (set : (key : ℕ) → find (has_key nat_cmp status_of key) new ≡ cond (has_key nat_cmp status_of key (row status (count + 1))) (Some (row status (count + 1))) (find (has_key nat_cmp status_of key) old))
  where
    counted_at : (r : Reply) → r.told.status ≡ status → (s : ℕ) → find (has_key nat_cmp status_of s) old ≡ row_of s (times s replies) → find (has_key nat_cmp status_of s) new ≡ row_of s (times s (replies ++ r ∷ []))
    counted_at r has s was =
        set s
        ∙ (ap (λ b. cond b (Some (row status (count + 1))) (find (has_key nat_cmp status_of s) old)) (unsigned_tied status s)
        ∙ (row_by (status == s) status s count (times s replies) (find (has_key nat_cmp status_of s) old) (λ e. grind (arith, e)) (λ e. is ∙ ap (λ k. times k replies) (grind (arith, e))) was
        ∙ sym (ap (row_of s) (times_more s replies r ∙ ap (λ k. times s replies + cond (k == s) 1 0) has))))

    pub one_more_counted : (r : Reply) → IsCounted replies old → r.told.status ≡ status → IsCounted (replies ++ r ∷ []) new
    one_more_counted r was has = λ s. counted_at r has s (was s)
