-- Ids that are put in one by one.
use Rattle.std.proofs.Common.{◌≡◌, ℕ, List, fold, drop, get_or, length, ◌+◌, ◌<◌, ap, sym, ◌∙◌}
use Rattle.std.specs.Ordering.{nat_cmp}
use Rattle.std.proofs.lemmas.List.{at_drop_more}
use Rattle.wb_list.specs.Keyed.{insert_item}

abbrev put_id : List ℕ → ℕ → List ℕ
put_id before id = insert_item nat_cmp (λ (n : ℕ). n) before id

-- one more id is put in
pub step : (old new : List ℕ) (users : List ℕ) (i u : ℕ) (all : List ℕ) → i < length users → get_or users i u ≡ u → new ≡ put_id old u → fold put_id old (drop i users) ≡ all → fold put_id new (drop (i + 1) users) ≡ all
step old new users i u all within here put before =
    let one = at_drop_more (λ us. fold put_id old us) users i u within in
    rw put (sym (ap (λ v. fold put_id (put_id old v) (drop (i + 1) users)) here) ∙ sym one ∙ before)
