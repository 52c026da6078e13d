-- The entries of reports in order, whose trails are legal, are read as these reports.
use Rattle.std.proofs.Common.{◌≡◌, ℕ, ◌+◌, true, false, List, [], ◌∷◌, ◌++◌, append_assoc, append-nil, length, Ok, refl, sym, ap, ◌∙◌, arith}
use Rattle.std.proofs.lemmas.Bool.{and_from, and_parts, eq-eqb, false≢true}
use Rattle.std.proofs.lemmas.List.{length-append}
use Rattle.std.specs.List.{list_all}
use Rattle.std.specs.List.Sorted.{IsStrictlySortedBy}
use Rattle.std.specs.Prelude.{◌==◌}
use Rattle.std.specs.declared.cmp.Ordering.TheVariants.{Less}
use Rattle.wb_custody.specs.SealedAnswers.{pair_cmp}
use Rattle.wb_row_codec.specs.declared.item.EntryItem.{EntryItem}
use Rattle.wb_list.specs.Keyed.{IsAscending}
use Rattle.wb_model.specs.declared.entry.Entry.{Entry}
use Rattle.wb_model.specs.declared.registry.Lists.{Lists}
use Rattle.wb_model.specs.Legal.{is_first, is_next, legal_from, last_at}
use Rattle.wb_rows.specs.Reports.{Report}
use Rattle.wb_rows.specs.HeldItems.{entry_items, trail_items}
use Rattle.wb_rows.specs.Places.{report_place}
use Rattle.wb_rows.specs.TrailRule.{begins, begun, goes_on, is_legal_report, is_of, days, reports_after, reports_of}
use Rattle.wb_rows.proofs.SealedRows.{other_place}

last_of : (time : ℕ) (before : List Entry) (e : Entry) → last_at time (before ++ e ∷ []) ≡ e.at
last_of time [] e = refl
last_of time (x ∷ xs) e = last_of x.at xs e

abbrev with_trail : ℕ → ℕ → List Entry → Report
with_trail t n trail = record { tenant = t; number = n; trail = trail }

-- an entry at the next place goes on
next_goes : (lists : Lists) (t n place : ℕ) (before : List Entry) (e : Entry) → place ≡ length before + 1 → is_next (days lists t) (last_at 0 before) before e ≡ true → goes_on lists (with_trail t n before) (record { tenant = t; number = n; place = place; entry = e }) ≡ true
unfolding goes_on
next_goes lists t n place before e is next = and_from (place == length before + 1) (is_next (days lists t) (last_at 0 before) before e) (eq-eqb place (length before + 1) is) next

-- the entries that are left of a trail are read
rest_read : (lists : Lists) (t n place : ℕ) (before es : List Entry) (more : List EntryItem) → place ≡ length before + 1 → legal_from (days lists t) (last_at 0 before) before es ≡ true → reports_after lists (with_trail t n before) (trail_items t n place es ++ more) ≡ reports_after lists (with_trail t n (before ++ es)) more
rest_read lists t n place before [] more is legal = ap (λ l. reports_after lists (with_trail t n l) more) (sym (append-nil before))
rest_read lists t n place before (e ∷ es) more is legal =
    let parts = and_parts (is_next (days lists t) (last_at 0 before) before e) (legal_from (days lists t) e.at (before ++ e ∷ []) es) legal in
    let grown = length-append before (e ∷ []) in
    let next : place + 1 ≡ length (before ++ e ∷ []) + 1 = omega (arith, is, grown) in
    let later : legal_from (days lists t) (last_at 0 (before ++ e ∷ [])) (before ++ e ∷ []) es ≡ true = ap (λ m. legal_from (days lists t) m (before ++ e ∷ []) es) (last_of 0 before e) ∙ parts.1 in
    rw (eq-eqb t t refl, eq-eqb n n refl, next_goes lists t n place before e is parts.0)
    (rest_read lists t n (place + 1) (before ++ e ∷ []) es more next later ∙ ap (λ l. reports_after lists (with_trail t n l) more) (append_assoc before (e ∷ []) es))

first_begins : (lists : Lists) (t n : ℕ) (e : Entry) → is_first (days lists t) e ≡ true → begins lists (record { tenant = t; number = n; place = 1; entry = e }) ≡ true
unfolding begins
first_begins lists t n e first = and_from (1 == 1) (is_first (days lists t) e) (eq-eqb 1 1 refl) first

-- the entries of a whole trail are read as its report
module _ (lists : Lists) (t n : ℕ) (e : Entry) (es : List Entry) (legal : is_legal_report lists (with_trail t n (e ∷ es)) ≡ true) where
  parts : (is_first (days lists t) e ≡ true) × (legal_from (days lists t) e.at (e ∷ []) es ≡ true)
  parts = and_parts (is_first (days lists t) e) (legal_from (days lists t) e.at (e ∷ []) es) legal

  abbrev one : EntryItem
  one = record { tenant = t; number = n; place = 1; entry = e }

  begun_read : (more : List EntryItem) → reports_after lists (begun one) (trail_items t n 2 es ++ more) ≡ reports_after lists (with_trail t n (e ∷ es)) more
  begun_read more = rest_read lists t n 2 (e ∷ []) es more (omega arith) parts.1

  first_read : (more : List EntryItem) → reports_of lists (trail_items t n 1 (e ∷ es) ++ more) ≡ reports_after lists (with_trail t n (e ∷ es)) more
  first_read more = rw (first_begins lists t n e parts.0) (begun_read more)

after_read : (lists : Lists) (r : Report) (rs : List Report) → IsAscending pair_cmp report_place (r ∷ rs) → list_all (is_legal_report lists) rs ≡ true → reports_after lists r (entry_items rs) ≡ Ok (r ∷ rs)
unfolding IsStrictlySortedBy
after_read lists r [] order legal = refl
after_read lists r (s ∷ rs) order legal =
    let legals = and_parts (is_legal_report lists s) (list_all (is_legal_report lists) rs) legal in
    by s.tenant s.number s.trail legals.0 order.0.0 (after_read lists s rs order.1 legals.1)
  where
    by : (t n : ℕ) (trail : List Entry) → is_legal_report lists (with_trail t n trail) ≡ true → pair_cmp (report_place r) (t, n) ≡ Less → reports_after lists (with_trail t n trail) (entry_items rs) ≡ Ok (with_trail t n trail ∷ rs)
        → reports_after lists r (trail_items t n 1 trail ++ entry_items rs) ≡ Ok (r ∷ with_trail t n trail ∷ rs)
    by t n [] own less rest = absurd (false≢true own)
    by t n (e ∷ es) own less rest =
        let other : is_of r (one lists t n e es own) ≡ false = other_place (report_place r) (t, n) less in
        rw (other, first_begins lists t n e (parts lists t n e es own).0, begun_read lists t n e es own (entry_items rs), rest) refl

pub reports-read : (lists : Lists) (rs : List Report) → IsAscending pair_cmp report_place rs → list_all (is_legal_report lists) rs ≡ true → reports_of lists (entry_items rs) ≡ Ok rs
reports-read lists [] order legal = refl
reports-read lists (r ∷ rs) order legal =
    let legals = and_parts (is_legal_report lists r) (list_all (is_legal_report lists) rs) legal in
    by r.tenant r.number r.trail legals.0 (after_read lists r rs order legals.1)
  where
    by : (t n : ℕ) (trail : List Entry) → is_legal_report lists (with_trail t n trail) ≡ true → reports_after lists (with_trail t n trail) (entry_items rs) ≡ Ok (with_trail t n trail ∷ rs)
        → reports_of lists (trail_items t n 1 trail ++ entry_items rs) ≡ Ok (with_trail t n trail ∷ rs)
    by t n [] own rest = absurd (false≢true own)
    by t n (e ∷ es) own rest = first_read lists t n e es own (entry_items rs) ∙ rest
