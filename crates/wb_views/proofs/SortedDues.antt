-- What is due, sorted by its day: a stable sort puts it in the order in which it comes when each is put among those before it.
use Rattle.std.proofs.Common.{◌≡◌, ◌<◌, ◌≤◌, ℕ, zero, suc, ℤ, List, [], ◌∷◌, ◌++◌, length, get_or, Bool, true, false, not, ◌&&◌, filter, fold, refl, sym, ap, ◌∙◌, subst, arith, append-nil, append_assoc}
use Rattle.std.specs.Prelude.{int_lt, if◌then◌else◌}
use Rattle.std.specs.Cmp.{IsStrictWeakOrder, int_cmp_total}
use Rattle.std.specs.List.Sorted.{IsSortedBy, ties}
use Rattle.std.specs.Ordering.{int_cmp, is_lt}
use Rattle.std.specs.declared.cmp.Ordering.TheVariants.{Less, Equal, Greater}
use Rattle.std.proofs.lemmas.Bool.{false≢true}
use Rattle.std.proofs.lemmas.List.Elements.{filter-append}
use Rattle.std.proofs.lemmas.List.Sorted.{ranks_by, sorted_far}
use Rattle.wb_model.specs.declared.view.Due.{Due}
use Rattle.wb_model.specs.ViewRows.{due_among}

abbrev pub before : Due → Due → Bool
before x y = is_lt (int_cmp x.day y.day)

by_day : IsStrictWeakOrder before
by_day = ranks_by int_cmp_total (λ (x : Due). x.day)

is_before : (a b : ℤ) → is_lt (int_cmp a b) ≡ int_lt a b
is_before a b = by (int_lt a b) (int_lt b a)
  where
    by : (p q : Bool) → is_lt (if p then Less else (if q then Greater else Equal)) ≡ p
    by true q = refl
    by false true = refl
    by false false = refl

-- ---- lists by day

-- none of them is before this one
abbrev NoneBefore : Due → List Due → Type 0
NoneBefore d [] = Unit {0}
NoneBefore d (x ∷ xs) = (before x d ≡ false) × NoneBefore d xs

abbrev AreByDay : List Due → Type 0
AreByDay [] = Unit {0}
AreByDay (x ∷ xs) = NoneBefore x xs × AreByDay xs

from_places : (d : Due) (xs : List Due) → ((j : ℕ) → j < length xs → before (get_or xs j d) d ≡ false) → NoneBefore d xs
from_places d [] h = tt
from_places d (x ∷ xs) h = (h zero (omega arith), from_places d xs (λ j k. h (suc j) (omega arith)))

from_far : (xs : List Due) → ((i j : ℕ) (d : Due) → i ≤ j → j < length xs → before (get_or xs j d) (get_or xs i d) ≡ false) → AreByDay xs
from_far [] h = tt
from_far (x ∷ xs) h = (from_places x xs (λ j k. h zero (suc j) x (omega arith) (omega arith)), from_far xs (λ i j d k l. h (suc i) (suc j) d (omega arith) (omega arith)))

pub from_sorted : (xs : List Due) → IsSortedBy before xs → AreByDay xs
from_sorted xs up = from_far xs (sorted_far before by_day xs up)

-- those that are not before one are not before an earlier one
none_before_earlier : (d x : Due) (xs : List Due) → before x d ≡ false → NoneBefore x xs → NoneBefore d xs
none_before_earlier d x [] e h = tt
none_before_earlier d x (y ∷ ys) e h = (by_day.chain y x d h.0 e, none_before_earlier d x ys e h.1)

-- ---- one more among them

none_before_among : (z d : Due) (xs : List Due) → NoneBefore z xs → before d z ≡ false → NoneBefore z (due_among xs d)
none_before_among z d [] h e = (e, tt)
none_before_among z d (x ∷ xs) h e = by (none_before_among z d xs h.1 e) (int_lt d.day x.day)
  where
    by : NoneBefore z (due_among xs d) → (p : Bool) → NoneBefore z (if p then d ∷ x ∷ xs else x ∷ due_among xs d)
    by rest true = (e, h)
    by rest false = (h.0, rest)

by_day_among : (d : Due) (xs : List Due) → AreByDay xs → AreByDay (due_among xs d)
by_day_among d [] a = (tt, tt)
by_day_among d (x ∷ xs) a = by (by_day_among d xs a.1) (int_lt d.day x.day) refl
  where
    by : AreByDay (due_among xs d) → (p : Bool) → int_lt d.day x.day ≡ p → AreByDay (if p then d ∷ x ∷ xs else x ∷ due_among xs d)
    by rest true is = let after : before x d ≡ false = by_day.one_way d x (is_before d.day x.day ∙ is) in ((after, none_before_earlier d x xs after a.0), a)
    by rest false is = (none_before_among x d xs a.0 (is_before d.day x.day ∙ is), rest)

-- this one is before all of them
abbrev IsBeforeAll : Due → List Due → Type 0
IsBeforeAll d [] = Unit {0}
IsBeforeAll d (x ∷ xs) = (before d x ≡ true) × IsBeforeAll d xs

before_later : (d x y : Due) → before d x ≡ true → before y x ≡ false → before d y ≡ true
before_later d x y e f = by (before d y) refl
  where
    by : (p : Bool) → before d y ≡ p → p ≡ true
    by true is = refl
    by false is = sym (by_day.chain d y x is f) ∙ e

before_all : (d x : Due) (xs : List Due) → before d x ≡ true → NoneBefore x xs → IsBeforeAll d xs
before_all d x [] e h = tt
before_all d x (y ∷ ys) e h = (before_later d x y e h.0, before_all d x ys e h.1)

-- one day's one and an earlier one are not of one day
apart : (z d y : Due) → ties before z d ≡ true → before d y ≡ true → ties before z y ≡ false
apart z d y t e = by (before z d) (before d z) (before z y) refl refl refl t
  where
    by : (p q r : Bool) → before z d ≡ p → before d z ≡ q → before z y ≡ r → (not p && not q) ≡ true → (not r && not (before y z)) ≡ false
    by true q r zd dz zy k = absurd cc
    by false true r zd dz zy k = absurd cc
    by false false true zd dz zy k = refl
    by false false false zd dz zy k = absurd (false≢true (sym (by_day.chain d z y dz zy) ∙ e))

-- where it goes makes no difference to those of a day
moved : (z d : Due) (xs : List Due) → IsBeforeAll d xs → filter (ties before z) (d ∷ xs) ≡ filter (ties before z) (xs ++ d ∷ [])
moved z d [] h = refl
moved z d (y ∷ ys) h = by (ties before z d) (ties before z y) refl refl (moved z d ys h.1)
  where
    by : (p q : Bool) → ties before z d ≡ p → ties before z y ≡ q → (if p then d ∷ filter (ties before z) ys else filter (ties before z) ys) ≡ filter (ties before z) (ys ++ d ∷ [])
        → (if p then d ∷ (if q then y ∷ filter (ties before z) ys else filter (ties before z) ys) else (if q then y ∷ filter (ties before z) ys else filter (ties before z) ys))
        ≡ (if q then y ∷ filter (ties before z) (ys ++ d ∷ []) else filter (ties before z) (ys ++ d ∷ []))
    by true true zd zy e = absurd (false≢true (sym (apart z d y zd h.0) ∙ zy))
    by true false zd zy e = e
    by false true zd zy e = ap (λ rest. y ∷ rest) e
    by false false zd zy e = e

of_day_among : (z d : Due) (xs : List Due) → AreByDay xs → filter (ties before z) (due_among xs d) ≡ filter (ties before z) (xs ++ d ∷ [])
of_day_among z d [] a = refl
of_day_among z d (x ∷ xs) a = by (of_day_among z d xs a.1) (int_lt d.day x.day) refl
  where
    next : (q : Bool) → filter (ties before z) (due_among xs d) ≡ filter (ties before z) (xs ++ d ∷ [])
        → (if q then x ∷ filter (ties before z) (due_among xs d) else filter (ties before z) (due_among xs d)) ≡ (if q then x ∷ filter (ties before z) (xs ++ d ∷ []) else filter (ties before z) (xs ++ d ∷ []))
    next true e = ap (λ rest. x ∷ rest) e
    next false e = e

    by : filter (ties before z) (due_among xs d) ≡ filter (ties before z) (xs ++ d ∷ [])
        → (p : Bool) → int_lt d.day x.day ≡ p → filter (ties before z) (if p then d ∷ x ∷ xs else x ∷ due_among xs d) ≡ filter (ties before z) (x ∷ (xs ++ d ∷ []))
    by rest true is = let first : before d x ≡ true = is_before d.day x.day ∙ is in moved z d (x ∷ xs) (first, before_all d x xs first a.0)
    by rest false is = next (ties before z x) rest

-- ---- each among those before it

by_day_all : (done xs : List Due) → AreByDay done → AreByDay (fold due_among done xs)
by_day_all done [] a = a
by_day_all done (x ∷ xs) a = by_day_all (due_among done x) xs (by_day_among x done a)

of_day_all : (z : Due) (done xs : List Due) → AreByDay done → filter (ties before z) (fold due_among done xs) ≡ filter (ties before z) (done ++ xs)
of_day_all z done [] a = ap (filter (ties before z)) (sym (append-nil done))
of_day_all z done (x ∷ xs) a =
    let t = ties before z in
    of_day_all z (due_among done x) xs (by_day_among x done a)
    ∙ (filter-append t (due_among done x) xs
    ∙ (ap (λ ds. ds ++ filter t xs) (of_day_among z x done a)
    ∙ (sym (filter-append t (done ++ x ∷ []) xs) ∙ ap (filter t) (append_assoc done (x ∷ []) xs))))

-- ---- two lists by day that have the same of each day are the same

abbrev first_or : Due → List Due → Due
first_or d [] = d
first_or d (x ∷ xs) = x

abbrev rest_of : List Due → List Due
rest_of [] = []
rest_of (x ∷ xs) = xs

has_itself : (x : Due) → ties before x x ≡ true
has_itself x = by (before x x) refl
  where
    by : (p : Bool) → before x x ≡ p → (not p && not p) ≡ true
    by true is = absurd (false≢true (sym (by_day.one_way x x is) ∙ is))
    by false is = refl

kept : (x : Due) (xs : List Due) (p : Bool) → p ≡ true → (if p then x ∷ xs else xs) ≡ x ∷ xs
kept x xs true e = refl
kept x xs false e = absurd cc

-- one that is found among them is not before one that none of them is before
found_later : (x y : Due) (t : Due → Bool) (ys rest : List Due) → filter t ys ≡ x ∷ rest → NoneBefore y ys → before x y ≡ false
found_later x y t [] rest e h = absurd cc
found_later x y t (z ∷ zs) rest e h = by (λ f. found_later x y t zs rest f h.1) (t z) e
  where
    by : (filter t zs ≡ x ∷ rest → before x y ≡ false) → (p : Bool) → (if p then z ∷ filter t zs else filter t zs) ≡ x ∷ rest → before x y ≡ false
    by later true f = subst (λ d. before d y ≡ false) (ap (first_or z) f) h.0
    by later false f = later f

-- and one that is first, or found later, is not before the first
not_before_first : (x y : Due) (ys rest : List Due) → filter (ties before x) (y ∷ ys) ≡ x ∷ rest → NoneBefore y ys → before x y ≡ false
not_before_first x y ys rest e h = by (before x y) (before y x) refl refl e
  where
    by : (p q : Bool) → before x y ≡ p → before y x ≡ q → (if (not p && not q) then y ∷ filter (ties before x) ys else filter (ties before x) ys) ≡ x ∷ rest → p ≡ false
    by false q xy yx e = refl
    by true q xy yx e = sym xy ∙ found_later x y (ties before x) ys rest e h

both_not : (p q : Bool) → p ≡ false → q ≡ false → (not p && not q) ≡ true
both_not false false e f = refl
both_not false true e f = absurd cc
both_not true q e f = absurd cc

empty_full : {P : Type 0} (x : Due) (xs : List Due) → [] ≡ x ∷ xs → P
empty_full x xs e = absurd cc

same_rest : (x : Due) (p : Bool) (xs ys : List Due) → (if p then x ∷ xs else xs) ≡ (if p then x ∷ ys else ys) → xs ≡ ys
same_rest x true xs ys e = ap rest_of e
same_rest x false xs ys e = e

pub same : (xs ys : List Due) → AreByDay xs → AreByDay ys → ((z : Due) → filter (ties before z) xs ≡ filter (ties before z) ys) → xs ≡ ys
same [] [] a b h = refl
same [] (y ∷ ys) a b h = empty_full y _ (h y ∙ kept y (filter (ties before y) ys) (ties before y y) (has_itself y))
same (x ∷ xs) [] a b h = empty_full x _ (sym (h x) ∙ kept x (filter (ties before x) xs) (ties before x x) (has_itself x))
same (x ∷ xs) (y ∷ ys) a b h =
    let of_x : filter (ties before x) (y ∷ ys) ≡ x ∷ filter (ties before x) xs = sym (h x) ∙ kept x (filter (ties before x) xs) (ties before x x) (has_itself x) in
    let of_y : filter (ties before y) (x ∷ xs) ≡ y ∷ filter (ties before y) ys = h y ∙ kept y (filter (ties before y) ys) (ties before y y) (has_itself y) in
    let tied : ties before x y ≡ true = both_not _ _ (not_before_first x y ys _ of_x b.0) (not_before_first y x xs _ of_y a.0) in
    let one : y ≡ x = ap (first_or x) (sym (kept y (filter (ties before x) ys) (ties before x y) tied) ∙ of_x) in
    let rests : xs ≡ ys = same xs ys a.1 b.1 (λ z. same_rest x (ties before z x) (filter (ties before z) xs) (filter (ties before z) ys) (h z ∙ ap (λ d. filter (ties before z) (d ∷ ys)) one)) in
    ap (λ d. d ∷ xs) (sym one) ∙ ap (λ ds. y ∷ ds) rests

-- so a stable sort gives the definition's order
pub sorted_dues : (xs sorted : List Due) → IsSortedBy before sorted → ((z : Due) → filter (ties before z) sorted ≡ filter (ties before z) xs) → sorted ≡ fold due_among [] xs
sorted_dues xs sorted up stable = same sorted (fold due_among [] xs) (from_sorted sorted up) (by_day_all [] xs tt) (λ z. stable z ∙ sym (of_day_all z [] xs tt))
