-- The reports that are read have legal trails.
use Rattle.std.proofs.Common.{◌≡◌, ◌⊎◌, inl, inr, true, false, List, [], ◌∷◌, Ok, refl, sym, subst}
use Rattle.std.proofs.lemmas.Bool.{and_from, and_parts}
use Rattle.std.specs.List.{list_all}
use Rattle.std.specs.Prelude.{◌+◌, ◌==◌, length}
use Rattle.wb_row_codec.specs.declared.item.EntryItem.{EntryItem}
use Rattle.wb_model.specs.declared.registry.Lists.{Lists}
use Rattle.wb_model.specs.Legal.{is_first, is_next, last_at}
use Rattle.wb_model.proofs.LegalDoings.{trail_more}
use Rattle.wb_base.specs.declared.rows.Row.{Row}
use Rattle.wb_rows.specs.Reports.{Report}
use Rattle.wb_rows.specs.Held.{Held}
use Rattle.wb_rows.specs.Judged.{judged_in}
use Rattle.wb_rows.specs.KeptItems.{kept_of}
use Rattle.wb_rows.specs.TrailRule.{begins, begun, continued, goes_on, is_legal_report, is_of, days, reports_after, reports_of}
use Rattle.wb_rows.proofs.ReportOrder.{on_entry, on_first}
use Rattle.wb_rows.proofs.RowsBack.{is-read}
use Rattle.wb_base.specs.declared.form.Format.{Format}

begun_legal : (lists : Lists) (x : EntryItem) → begins lists x ≡ true → is_legal_report lists (begun x) ≡ true
unfolding begins
begun_legal lists x first = and_from (is_first (days lists x.tenant) x.entry) true (and_parts (x.place == 1) (is_first (days lists x.tenant) x.entry) first).1 refl

continued_legal : (lists : Lists) (r : Report) (x : EntryItem) → is_legal_report lists r ≡ true → goes_on lists r x ≡ true → is_legal_report lists (continued r x) ≡ true
unfolding goes_on
continued_legal lists r x legal on = trail_more (days lists r.tenant) r.trail x.entry legal (and_parts (x.place == length r.trail + 1) (is_next (days lists r.tenant) (last_at 0 r.trail) r.trail x.entry) on).1

after_legal : (lists : Lists) (r : Report) (xs : List EntryItem) (rs : List Report) → is_legal_report lists r ≡ true → reports_after lists r xs ≡ Ok rs → list_all (is_legal_report lists) rs ≡ true
after_legal lists r [] rs legal is = let whole : r ∷ [] ≡ rs = cc (is) in subst (λ l. list_all (is_legal_report lists) l ≡ true) whole (and_from (is_legal_report lists r) true legal refl)
after_legal lists r (x ∷ xs) rs legal is = by (on_entry lists r x xs rs is) (λ own next. after_legal lists (continued r x) xs rs own next) (λ own more other. after_legal lists (begun x) xs more own other)
  where
    by : ((is_of r x ≡ true) × (goes_on lists r x ≡ true) × (reports_after lists (continued r x) xs ≡ Ok rs)) ⊎ ((is_of r x ≡ false) × (begins lists x ≡ true) × ((more : List Report) × (reports_after lists (begun x) xs ≡ Ok more) × (rs ≡ r ∷ more)))
        → (is_legal_report lists (continued r x) ≡ true → reports_after lists (continued r x) xs ≡ Ok rs → list_all (is_legal_report lists) rs ≡ true)
        → (is_legal_report lists (begun x) ≡ true → (more : List Report) → reports_after lists (begun x) xs ≡ Ok more → list_all (is_legal_report lists) more ≡ true) → list_all (is_legal_report lists) rs ≡ true
    by (inl h) same other = same (continued_legal lists r x legal h.1) h.2
    by (inr h) same other = subst (λ l. list_all (is_legal_report lists) l ≡ true) (sym h.2.2) (and_from (is_legal_report lists r) (list_all (is_legal_report lists) h.2.0) legal (other (begun_legal lists x h.1) h.2.0 h.2.1))

-- each trail that is read is legal
pub reports-legal : (lists : Lists) (xs : List EntryItem) (rs : List Report) → reports_of lists xs ≡ Ok rs → list_all (is_legal_report lists) rs ≡ true
reports-legal lists [] rs is = let none : [] ≡ rs = cc (is) in subst (λ l. list_all (is_legal_report lists) l ≡ true) none refl
reports-legal lists (x ∷ xs) rs is = let first = on_first lists x xs rs is in after_legal lists (begun x) xs rs (begun_legal lists x first.0) first.1

-- so are those of rows that are read as tables
pub read-legal : (format : Format) (rows : List Row) (h : Held) → judged_in format rows ≡ Ok h → list_all (is_legal_report h.lists) h.reports ≡ true
read-legal format rows h is =
    let parts = is-read format rows h is in
    let how = parts.1.1 in
    subst (λ (x : Held). list_all (is_legal_report x.lists) x.reports ≡ true) how.held (reports-legal (kept_of parts.0).lists (kept_of parts.0).entries parts.1.0 how.reports)
