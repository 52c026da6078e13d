-- The entries of which reports are read are those of the reports' trails, one report after another; and so are their rows.
use Rattle.std.proofs.Common.{◌≡◌, ◌⊎◌, inl, inr, ℕ, ◌+◌, true, false, List, [], ◌∷◌, ◌++◌, append_assoc, map, length, Ok, refl, sym, ap, ◌∙◌, subst, arith}
use Rattle.std.proofs.lemmas.Bool.{and_parts, eqb-true}
use Rattle.std.proofs.lemmas.List.{map-append}
use Rattle.std.specs.Prelude.{◌==◌}
use Rattle.wb_row_codec.specs.declared.item.EntryItem.{EntryItem}
use Rattle.wb_model.specs.declared.entry.Entry.{Entry}
use Rattle.wb_model.specs.declared.registry.Lists.{Lists}
use Rattle.wb_model.specs.Legal.{is_first, is_next, last_at}
use Rattle.wb_model.specs.Rows.{row, entry_data, entries_from}
use Rattle.wb_rows.specs.Reports.{Report}
use Rattle.wb_rows.specs.HeldItems.{trail_items, report_items, entry_items}
use Rattle.wb_rows.specs.HeldRows.{trail_rows}
use Rattle.wb_rows.specs.TrailRule.{days, begun, continued, is_of, begins, goes_on, reports_after, reports_of}
use Rattle.wb_rows.proofs.ItemKinds.{entry_row}
use Rattle.wb_rows.proofs.ReportOrder.{on_entry, on_first}

-- ---- the entries of trails

one_more : (t n place last : ℕ) (es : List Entry) (e : Entry) → last ≡ place + length es → trail_items t n place (es ++ e ∷ []) ≡ trail_items t n place es ++ record { tenant = t; number = n; place = last; entry = e } ∷ []
one_more t n place last [] e is = ap (λ (k : ℕ). record { tenant = t; number = n; place = k; entry = e } ∷ []) (omega (arith, is))
one_more t n place last (x ∷ es) e is = ap (λ l. record { tenant = t; number = n; place = place; entry = x } ∷ l) (one_more t n (place + 1) last es e (omega (arith, is)))

-- ---- what is read

-- an entry is the next one of its report
continued_items : (lists : Lists) (r : Report) (x : EntryItem) → is_of r x ≡ true → goes_on lists r x ≡ true → report_items (continued r x) ≡ report_items r ++ x ∷ []
unfolding goes_on
continued_items lists r x own on =
    let same = and_parts (r.tenant == x.tenant) (r.number == x.number) own in
    let next = and_parts (x.place == length r.trail + 1) (is_next (days lists r.tenant) (last_at 0 r.trail) r.trail x.entry) on in
    let place : x.place ≡ length r.trail + 1 = eqb-true x.place (length r.trail + 1) next.0 in
    one_more r.tenant r.number 1 x.place r.trail x.entry (omega (arith, place))
    ∙ (λ i. report_items r ++ record { tenant = eqb-true r.tenant x.tenant same.0 i; number = eqb-true r.number x.number same.1 i; place = x.place; entry = x.entry } ∷ [])

begun_items : (lists : Lists) (x : EntryItem) → begins lists x ≡ true → report_items (begun x) ≡ x ∷ []
unfolding begins
begun_items lists x first =
    let parts = and_parts (x.place == 1) (is_first (days lists x.tenant) x.entry) first in
    ap (λ (k : ℕ). record { tenant = x.tenant; number = x.number; place = k; entry = x.entry } ∷ []) (sym (eqb-true x.place 1 parts.0))

after_items : (lists : Lists) (r : Report) (xs : List EntryItem) (rs : List Report) → reports_after lists r xs ≡ Ok rs → report_items r ++ xs ≡ entry_items rs
after_items lists r [] rs is = let whole : r ∷ [] ≡ rs = cc (is) in subst (λ l. report_items r ++ [] ≡ entry_items l) whole refl
after_items lists r (x ∷ xs) rs is = by (on_entry lists r x xs rs is) (λ next. after_items lists (continued r x) xs rs next) (λ more other. after_items lists (begun x) xs more other)
  where
    by : ((is_of r x ≡ true) × (goes_on lists r x ≡ true) × (reports_after lists (continued r x) xs ≡ Ok rs)) ⊎ ((is_of r x ≡ false) × (begins lists x ≡ true) × ((more : List Report) × (reports_after lists (begun x) xs ≡ Ok more) × (rs ≡ r ∷ more)))
        → (reports_after lists (continued r x) xs ≡ Ok rs → report_items (continued r x) ++ xs ≡ entry_items rs)
        → ((more : List Report) → reports_after lists (begun x) xs ≡ Ok more → report_items (begun x) ++ xs ≡ entry_items more)
        → report_items r ++ x ∷ xs ≡ entry_items rs
    by (inl h) same other =
        sym (append_assoc (report_items r) (x ∷ []) xs)
        ∙ (ap (λ l. l ++ xs) (sym (continued_items lists r x h.0 h.1)) ∙ same h.2)
    by (inr h) same other =
        ap (λ l. report_items r ++ l) (ap (λ l. l ++ xs) (sym (begun_items lists x h.1)) ∙ other h.2.0 h.2.1)
        ∙ ap entry_items (sym h.2.2)

-- the entries are those of the trails
pub entries-back : (lists : Lists) (xs : List EntryItem) (rs : List Report) → reports_of lists xs ≡ Ok rs → xs ≡ entry_items rs
entries-back lists [] rs is = let none : [] ≡ rs = cc (is) in subst (λ l. [] ≡ entry_items l) none refl
entries-back lists (x ∷ xs) rs is =
    let first = on_first lists x xs rs is in
    ap (λ l. l ++ xs) (sym (begun_items lists x first.0)) ∙ after_items lists (begun x) xs rs first.1

-- ---- their rows

trail_row : (t n place : ℕ) (es : List Entry) → map entry_row (trail_items t n place es) ≡ entries_from t n place es
trail_row t n place [] = refl
trail_row t n place (e ∷ es) = ap (λ l. row 6 t n place (entry_data e) ∷ l) (trail_row t n (place + 1) es)

pub rows_of_items : (rs : List Report) → map entry_row (entry_items rs) ≡ trail_rows rs
rows_of_items [] = refl
rows_of_items (r ∷ rs) = map-append entry_row (report_items r) (entry_items rs) ∙ (λ i. trail_row r.tenant r.number 1 r.trail i ++ rows_of_items rs i)

-- the rows of entries are those of the trails
pub trails-back : (lists : Lists) (xs : List EntryItem) (rs : List Report) → reports_of lists xs ≡ Ok rs → map entry_row xs ≡ trail_rows rs
trails-back lists xs rs is = ap (map entry_row) (entries-back lists xs rs is) ∙ rows_of_items rs
