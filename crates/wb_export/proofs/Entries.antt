-- The lines of a tenant's reports, where they stand among those of others.
use Rattle.std.proofs.Common.{◌≡◌, ◌<◌, ◌+◌, ◌++◌, ◌∷◌, ◌&&◌, ℕ, ℤ, Bool, true, false, List, [], length, map, filter, drop, get_or, refl, sym, ap, ◌∙◌, append_assoc, append-nil, ◌≤◌}
use Rattle.std.specs.Prelude.{◌==◌, not, int_lt}
use Rattle.std.proofs.lemmas.List.{drop_all, drop_more}
use Rattle.wb_rows.specs.declared.cases.CaseItem.{CaseItem}
use Rattle.wb_rows.specs.Reports.{case_report}
use Rattle.wb_rows.specs.Openings.{case_of, cases_of}
use Rattle.wb_model.specs.Tables.{Case}
use Rattle.wb_model.specs.Trails.{expires, reads}
use Rattle.wb_export.specs.Csv.{CsvLine}
use Rattle.wb_export.specs.Registers.{register_line}

-- a report is in a register on a day of its tenant
abbrev pub is_registered : ℤ → ℕ → Case → Bool
is_registered today user c = (not (length c.trail == 0) && int_lt today (expires c.trail)) && reads user c.trail

-- so is one of the reports of all tenants, which is this tenant's
abbrev pub is_among : ℕ → ℤ → ℕ → CaseItem → Bool
is_among t today user x = (x.tenant == t) && is_registered today user (case_of (case_report x))

-- the lines of those among these reports of all tenants that are one tenant's and in the register
abbrev pub lines_of : ℕ → ℤ → ℕ → List CaseItem → List CsvLine
lines_of t today user items = map register_line (filter (is_registered today user) (cases_of (map case_report items) t))

here : (items : List CaseItem) (i : ℕ) (x : CaseItem) → i < length items → x ≡ get_or items i x → drop i items ≡ x ∷ drop (i + 1) items
here items i x within is = drop_more items i x within ∙ ap (λ y. y ∷ drop (i + 1) items) (sym is)

module _ (t : ℕ) (today : ℤ) (user : ℕ) where
  one_in : (x : CaseItem) (xs : List CaseItem) → is_among t today user x ≡ true → lines_of t today user (x ∷ xs) ≡ register_line (case_of (case_report x)) ∷ lines_of t today user xs
  one_in x xs e = by (x.tenant == t) (is_registered today user (case_of (case_report x))) refl refl e
    where
      by : (p q : Bool) → (x.tenant == t) ≡ p → is_registered today user (case_of (case_report x)) ≡ q → (p && q) ≡ true → lines_of t today user (x ∷ xs) ≡ register_line (case_of (case_report x)) ∷ lines_of t today user xs
      by true true a b e = rw (a, b) refl
      by true false a b e = absurd cc
      by false q a b e = absurd cc

  one_out : (x : CaseItem) (xs : List CaseItem) → is_among t today user x ≡ false → lines_of t today user (x ∷ xs) ≡ lines_of t today user xs
  one_out x xs e = by (x.tenant == t) (is_registered today user (case_of (case_report x))) refl refl e
    where
      by : (p q : Bool) → (x.tenant == t) ≡ p → is_registered today user (case_of (case_report x)) ≡ q → (p && q) ≡ false → lines_of t today user (x ∷ xs) ≡ lines_of t today user xs
      by true true a b e = absurd cc
      by true false a b e = rw (a, b) refl
      by false q a b e = rw a refl

  -- with the next report the lines that are done and those of the rest are all lines still
  pub with_line : (done : List CsvLine) (items : List CaseItem) (i : ℕ) (x : CaseItem) → i < length items → x ≡ get_or items i x → is_among t today user x ≡ true
      → (done ++ lines_of t today user (drop i items)) ≡ lines_of t today user items
      → ((done ++ register_line (case_of (case_report x)) ∷ []) ++ lines_of t today user (drop (i + 1) items)) ≡ lines_of t today user items
  with_line done items i x within is among e =
      append_assoc done (register_line (case_of (case_report x)) ∷ []) (lines_of t today user (drop (i + 1) items))
      ∙ (ap (λ ls. done ++ ls) (sym (one_in x (drop (i + 1) items) among) ∙ ap (lines_of t today user) (sym (here items i x within is))) ∙ e)

  pub without_line : (done : List CsvLine) (items : List CaseItem) (i : ℕ) (x : CaseItem) → i < length items → x ≡ get_or items i x → is_among t today user x ≡ false
      → (done ++ lines_of t today user (drop i items)) ≡ lines_of t today user items
      → (done ++ lines_of t today user (drop (i + 1) items)) ≡ lines_of t today user items
  without_line done items i x within is among e =
      ap (λ ls. done ++ ls) (sym (one_out x (drop (i + 1) items) among) ∙ ap (lines_of t today user) (sym (here items i x within is))) ∙ e

  -- after the last report those that are done are all
  pub all_done : (done : List CsvLine) (items : List CaseItem) (i : ℕ) → length items ≤ i → (done ++ lines_of t today user (drop i items)) ≡ lines_of t today user items → done ≡ lines_of t today user items
  all_done done items i over e = sym (append-nil done) ∙ (ap (λ rest. done ++ lines_of t today user rest) (sym (drop_all i items over)) ∙ e)
