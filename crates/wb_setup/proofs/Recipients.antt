-- 1 to 32 ids of users that are put in one by one ascend and are no more.
use Rattle.std.proofs.Common.{◌≡◌, ℕ, ◌+◌, ◌≤◌, ◌&&◌, nat_le, true, List, [], ◌∷◌, length, fold, arith, leb-true, le-leb}
use Rattle.std.proofs.lemmas.Bool.{and_parts, and_from}
use Rattle.std.specs.Cmp.{nat_cmp_total}
use Rattle.std.specs.List.Sorted.{IsStrictlySortedBy}
use Rattle.std.specs.Ordering.{nat_cmp, match_ordering}
use Rattle.std.specs.declared.cmp.Ordering.{Ordering}
use Rattle.std.specs.declared.cmp.Ordering.TheVariants.{Less, Equal, Greater}
use Rattle.wb_model.specs.Fits.{is_between}
use Rattle.wb_model.specs.Legal.{are_readers, ascends}
use Rattle.wb_model.specs.Settings.{ascending}
use Rattle.wb_setup.proofs.Orders.{ids_ascend}
use Rattle.wb_setup.proofs.Puts.{put, ascending_puts}
use Rattle.wb_list.specs.Keyed.{IsAscending}
use Rattle.std.proofs.Common.{map-id, subst}

abbrev itself : ℕ → ℕ
itself n = n

abbrev put_id : List ℕ → ℕ → List ℕ
put_id xs x = put nat_cmp_total itself xs x

-- one more id makes one more at most, and some
one_more : (x : ℕ) (xs : List ℕ) → (1 ≤ length (put_id xs x)) × (length (put_id xs x) ≤ length xs + 1) × (length xs ≤ length (put_id xs x))
one_more x [] = (omega arith, omega arith, omega arith)
one_more x (y ∷ ys) = by (nat_cmp y x) (one_more x ys)
  where
    by : (r : Ordering) → (1 ≤ length (put_id ys x)) × (length (put_id ys x) ≤ length ys + 1) × (length ys ≤ length (put_id ys x))
        → (1 ≤ length (match_ordering r (y ∷ put_id ys x) (x ∷ ys) (x ∷ y ∷ ys))) × (length (match_ordering r (y ∷ put_id ys x) (x ∷ ys) (x ∷ y ∷ ys)) ≤ length (y ∷ ys) + 1) × (length (y ∷ ys) ≤ length (match_ordering r (y ∷ put_id ys x) (x ∷ ys) (x ∷ y ∷ ys)))
    by Less rest = (omega arith, omega (arith, rest.1), omega (arith, rest.2))
    by Equal rest = (omega arith, omega arith, omega arith)
    by Greater rest = (omega arith, omega arith, omega arith)

all_more : (xs before : List ℕ) → (length (fold put_id before xs) ≤ length before + length xs) × (length before ≤ length (fold put_id before xs))
all_more [] before = (omega arith, omega arith)
all_more (x ∷ xs) before =
    let one = one_more x before in
    let rest = all_more xs (put_id before x) in
    (omega (arith, one.1, rest.0), omega (arith, one.2, rest.1))

none_ascend : IsAscending nat_cmp itself []
unfolding IsStrictlySortedBy
none_ascend = tt

pub readers_right : (ids : List ℕ) → is_between 1 32 (length ids) ≡ true → are_readers (ascending ids) ≡ true
readers_right [] few = absurd cc
readers_right (x ∷ xs) few =
    let most = (and_parts (nat_le 1 (length (x ∷ xs))) (nat_le (length (x ∷ xs)) 32) few).1 in
    let bound = leb-true (length (x ∷ xs)) 32 most in
    let all = all_more xs (x ∷ []) in
    let up = ascending_puts nat_cmp_total itself (x ∷ xs) [] none_ascend in
    and_from (nat_le 1 (length (ascending (x ∷ xs))) && nat_le (length (ascending (x ∷ xs))) 32) (ascends (ascending (x ∷ xs)))
    (and_from (nat_le 1 (length (ascending (x ∷ xs)))) (nat_le (length (ascending (x ∷ xs))) 32) (le-leb 1 _ (omega (arith, all.1))) (le-leb _ 32 (omega (arith, all.0, bound))))
    (ids_ascend (ascending (x ∷ xs)) (subst (IsStrictlySortedBy nat_cmp) (map-id (ascending (x ∷ xs))) up))
