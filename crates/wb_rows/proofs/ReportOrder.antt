-- The reports of entries that ascend by their keys ascend by tenant and number.
use Rattle.std.proofs.Common.{◌≡◌, ◌⊎◌, inl, inr, ℕ, Bool, true, false, List, [], ◌∷◌, map, Result, Ok, Err, refl, sym, ap, ◌∙◌, subst}
use Rattle.std.proofs.lemmas.Bool.{false≢true}
use Rattle.std.specs.Cmp.{both_tied, unsigned_ties}
use Rattle.std.specs.List.{AllByRecursion}
use Rattle.std.specs.List.Sorted.{IsStrictlySortedBy}
use Rattle.std.specs.Ordering.{is_eq, is_gt, nat_cmp, ordering_then}
use Rattle.std.specs.declared.cmp.Ordering.{Ordering}
use Rattle.std.specs.declared.cmp.Ordering.TheVariants.{Less, Equal, Greater}
use Rattle.std.specs.Prelude.{◌==◌, ◌&&◌, if◌then◌else◌}
use Rattle.wb_base.specs.KeptRows.{key_cmp}
use Rattle.wb_base.specs.declared.rows.Key.{Key}
use Rattle.wb_custody.specs.SealedAnswers.{pair_cmp}
use Rattle.wb_row_codec.specs.declared.item.EntryItem.{EntryItem}
use Rattle.wb_list.specs.Keyed.{IsAscending}
use Rattle.wb_model.specs.declared.registry.Lists.{Lists}
use Rattle.wb_rows.specs.declared.cases.CaseItem.{CaseItem}
use Rattle.wb_rows.specs.Reports.{Report, case_report}
use Rattle.wb_rows.specs.Places.{entry_key, report_place}
use Rattle.wb_rows.specs.TrailRule.{begun, continued, is_of, begins, goes_on, with_report, reports_after, reports_of}
use Rattle.wb_custody.proofs.SealedLookups.{pair_total}
use Rattle.wb_rows.proofs.Lookups.{case_place}
use Rattle.std.proofs.lemmas.Cmp.{alike_right}

abbrev place : EntryItem → ℕ × ℕ
place x = (x.tenant, x.number)

-- a place is not after another
abbrev IsUpTo : ℕ × ℕ → ℕ × ℕ → Type 0
IsUpTo p q = is_gt (pair_cmp p q) ≡ false

from_keys : (x y : EntryItem) → key_cmp (entry_key x) (entry_key y) ≡ Less → IsUpTo (place x) (place y)
from_keys x y less = by (nat_cmp x.tenant y.tenant) (nat_cmp x.number y.number) (nat_cmp x.place y.place) less
  where
    by : (o m n : Ordering) → ordering_then o (ordering_then m n) ≡ Less → is_gt (ordering_then o m) ≡ false
    by Less m n e = refl
    by Equal Less n e = refl
    by Equal Equal n e = refl
    by Equal Greater n e = absurd (cc (e))
    by Greater m n e = absurd (cc (e))

strictly : (p q : ℕ × ℕ) → IsUpTo p q → ((p.0 == q.0) && (p.1 == q.1)) ≡ false → pair_cmp p q ≡ Less
strictly p q up other = by (pair_cmp p q) up (sym (both_tied _ _ _ _ (unsigned_ties p.0 q.0) (unsigned_ties p.1 q.1)) ∙ other)
  where
    by : (o : Ordering) → is_gt o ≡ false → is_eq o ≡ false → o ≡ Less
    by Less g e = refl
    by Equal g e = absurd (false≢true (sym e))
    by Greater g e = absurd (false≢true (sym g))

-- no entry is before the place of a report
abbrev AreFrom : ℕ × ℕ → List EntryItem → Type 0
AreFrom p [] = Unit {0}
AreFrom p (x ∷ xs) = IsUpTo p (place x) × AreFrom p xs

later : (x : EntryItem) (xs : List EntryItem) → AllByRecursion (λ k. key_cmp (entry_key x) k ≡ Less) (map entry_key xs) → AreFrom (place x) xs
later x [] below = tt
later x (y ∷ ys) below = (from_keys x y below.0, later x ys below.1)

abbrev Ascend : List EntryItem → Type 0
Ascend xs = IsStrictlySortedBy key_cmp (map entry_key xs)

abbrev Below : ℕ × ℕ → List Report → Type 0
Below p rs = AllByRecursion (λ q. pair_cmp p q ≡ Less) (map report_place rs)

-- ---- what an entry does to the reports

-- an entry goes on with the report that is read so far, or begins another
pub on_entry : (lists : Lists) (r : Report) (x : EntryItem) (xs : List EntryItem) (rs : List Report) → reports_after lists r (x ∷ xs) ≡ Ok rs
    → ((is_of r x ≡ true) × (goes_on lists r x ≡ true) × (reports_after lists (continued r x) xs ≡ Ok rs)) ⊎ ((is_of r x ≡ false) × (begins lists x ≡ true) × ((more : List Report) × (reports_after lists (begun x) xs ≡ Ok more) × (rs ≡ r ∷ more)))
on_entry lists r x xs rs is = by (is_of r x) (goes_on lists r x) (begins lists x) (reports_after lists (continued r x) xs) (reports_after lists (begun x) xs) refl refl refl refl refl is
  where
    by : (o g b : Bool) (next other : Result (List Report) Key) → is_of r x ≡ o → goes_on lists r x ≡ g → begins lists x ≡ b → reports_after lists (continued r x) xs ≡ next → reports_after lists (begun x) xs ≡ other
        → (if o then (if g then next else Err (entry_key x)) else (if b then with_report r other else Err (entry_key x))) ≡ Ok rs
        → ((is_of r x ≡ true) × (goes_on lists r x ≡ true) × (reports_after lists (continued r x) xs ≡ Ok rs)) ⊎ ((is_of r x ≡ false) × (begins lists x ≡ true) × ((more : List Report) × (reports_after lists (begun x) xs ≡ Ok more) × (rs ≡ r ∷ more)))
    by true true b next other eo eg eb en er e = inl (eo, eg, en ∙ e)
    by true false b next other eo eg eb en er e = absurd (cc (e))
    by false g true next (Ok more) eo eg eb en er e = inr (eo, eb, (more, er, (let whole : r ∷ more ≡ rs = cc (e) in sym whole)))
    by false g true next (Err k) eo eg eb en er e = absurd (cc (e))
    by false g false next other eo eg eb en er e = absurd (cc (e))

pub on_first : (lists : Lists) (x : EntryItem) (xs : List EntryItem) (rs : List Report) → reports_of lists (x ∷ xs) ≡ Ok rs → (begins lists x ≡ true) × (reports_after lists (begun x) xs ≡ Ok rs)
on_first lists x xs rs is = by (begins lists x) refl is
  where
    by : (b : Bool) → begins lists x ≡ b → (if b then reports_after lists (begun x) xs else Err (entry_key x)) ≡ Ok rs → (begins lists x ≡ true) × (reports_after lists (begun x) xs ≡ Ok rs)
    by true eb e = (eb, e)
    by false eb e = absurd (cc (e))

-- ---- their order

before_later : (p q s : ℕ × ℕ) → pair_cmp p q ≡ Less → IsUpTo q s → pair_cmp p s ≡ Less
before_later p q s less up = by (pair_cmp q s) refl up
  where
    by : (o : Ordering) → pair_cmp q s ≡ o → is_gt o ≡ false → pair_cmp p s ≡ Less
    by Less e g = pair_total.trans p q s less e
    by Equal e g = sym (alike_right pair_total q s p e) ∙ less
    by Greater e g = absurd (false≢true (sym g))

-- the reports that come of a report and the entries that are left are not before that report
after_below : (lists : Lists) (p : ℕ × ℕ) (r : Report) (xs : List EntryItem) (rs : List Report) → Ascend xs → AreFrom (report_place r) xs → pair_cmp p (report_place r) ≡ Less → reports_after lists r xs ≡ Ok rs → Below p rs
unfolding IsStrictlySortedBy
after_below lists p r [] rs order from less is = let whole : r ∷ [] ≡ rs = cc (is) in subst (Below p) whole (less, tt)
after_below lists p r (x ∷ xs) rs order from less is = by (on_entry lists r x xs rs is)
    (λ next. after_below lists p (continued r x) xs rs order.1 from.1 less next)
    (λ more other. after_below lists p (begun x) xs more order.1 (later x xs order.0) (before_later p (report_place r) (place x) less from.0) other)
  where
    by : ((is_of r x ≡ true) × (goes_on lists r x ≡ true) × (reports_after lists (continued r x) xs ≡ Ok rs)) ⊎ ((is_of r x ≡ false) × (begins lists x ≡ true) × ((more : List Report) × (reports_after lists (begun x) xs ≡ Ok more) × (rs ≡ r ∷ more)))
        → (reports_after lists (continued r x) xs ≡ Ok rs → Below p rs) → ((more : List Report) → reports_after lists (begun x) xs ≡ Ok more → Below p more) → Below p rs
    by (inl h) same other = same h.2
    by (inr h) same other = subst (Below p) (sym h.2.2) (less, other h.2.0 h.2.1)

after_ascends : (lists : Lists) (r : Report) (xs : List EntryItem) (rs : List Report) → Ascend xs → AreFrom (report_place r) xs → reports_after lists r xs ≡ Ok rs → IsAscending pair_cmp report_place rs
unfolding IsStrictlySortedBy
after_ascends lists r [] rs order from is = let whole : r ∷ [] ≡ rs = cc (is) in subst (IsAscending pair_cmp report_place) whole (tt, tt)
after_ascends lists r (x ∷ xs) rs order from is = by (on_entry lists r x xs rs is)
    (λ next. after_ascends lists (continued r x) xs rs order.1 from.1 next)
    (λ more other new. (after_below lists (report_place r) (begun x) xs more order.1 (later x xs order.0) (strictly (report_place r) (place x) from.0 new) other, after_ascends lists (begun x) xs more order.1 (later x xs order.0) other))
  where
    by : ((is_of r x ≡ true) × (goes_on lists r x ≡ true) × (reports_after lists (continued r x) xs ≡ Ok rs)) ⊎ ((is_of r x ≡ false) × (begins lists x ≡ true) × ((more : List Report) × (reports_after lists (begun x) xs ≡ Ok more) × (rs ≡ r ∷ more)))
        → (reports_after lists (continued r x) xs ≡ Ok rs → IsAscending pair_cmp report_place rs)
        → ((more : List Report) → reports_after lists (begun x) xs ≡ Ok more → is_of r x ≡ false → Below (report_place r) more × IsAscending pair_cmp report_place more) → IsAscending pair_cmp report_place rs
    by (inl h) same other = same h.2
    by (inr h) same other = subst (IsAscending pair_cmp report_place) (sym h.2.2) (other h.2.0 h.2.1 h.0)

pub reports_ascend : (lists : Lists) (xs : List EntryItem) (rs : List Report) → Ascend xs → reports_of lists xs ≡ Ok rs → IsAscending pair_cmp report_place rs
unfolding IsStrictlySortedBy
reports_ascend lists [] rs order is = let none : [] ≡ rs = cc (is) in subst (IsAscending pair_cmp report_place) none tt
reports_ascend lists (x ∷ xs) rs order is = after_ascends lists (begun x) xs rs order.1 (later x xs order.0) (on_first lists x xs rs is).1

places_of : (cases : List CaseItem) → map report_place (map case_report cases) ≡ map case_place cases
places_of [] = refl
places_of (c ∷ cs) = ap (λ l. case_place c ∷ l) (places_of cs)

-- the cases that are read of entries ascend
pub cases-order : (lists : Lists) (xs : List EntryItem) (cases : List CaseItem) → Ascend xs → reports_of lists xs ≡ Ok (map case_report cases) → IsAscending pair_cmp case_place cases
cases-order lists xs cases order is = subst (IsStrictlySortedBy pair_cmp) (places_of cases) (reports_ascend lists xs (map case_report cases) order is)
