-- Where the receipts of each tenant's reports are distinct, no two submissions have one receipt.
use Rattle.std.proofs.Common.{◌≡◌, ℕ, ◌+◌, Bool, true, false, cond, not, List, [], ◌∷◌, ◌++◌, map, filter, Option, Some, None, refl, sym, ap, ◌∙◌, arith}
use Rattle.std.proofs.lemmas.Bool.{and_parts, eq-eqb, or_parts, false≢true}
use Rattle.std.proofs.lemmas.Bool.Decides.{nat_tests}
use Rattle.std.proofs.lemmas.List.Folds.{list_any-append}
use Rattle.std.specs.List.{list_all, list_any}
use Rattle.std.specs.Prelude.{◌==◌, ◌&&◌, is_some}
use Rattle.wb_row_codec.specs.declared.item.EntryItem.{EntryItem}
use Rattle.wb_model.specs.declared.entry.Entry.{Entry}
use Rattle.wb_model.specs.declared.registry.Lists.{Lists}
use Rattle.wb_model.specs.KeptRules.{same_receipt as same_case}
use Rattle.wb_model.specs.SetUps.{are_apart}
use Rattle.wb_model.specs.Trails.{Submission, submission_in}
use Rattle.wb_rows.specs.Reports.{Report}
use Rattle.wb_rows.specs.HeldItems.{entry_items, trail_items}
use Rattle.wb_rows.specs.Openings.{case_of, cases_of}
use Rattle.wb_rows.specs.ReportRules.{is_same_receipt, same_receipt}
use Rattle.wb_rows.specs.TrailRule.{is_legal_report, days}
use Rattle.wb_rows.proofs.KeptReceipts.{item, same_submission}
use Rattle.wb_rows.proofs.WholeTrails.{AreSilent, begins_so}

-- ---- entries that are no submissions

no_receipt : (o : Option Submission) → is_same_receipt o None ≡ false
no_receipt None = refl
no_receipt (Some s) = refl

off : (b : Bool) → (b && false) ≡ false
off true = refl
off false = refl

not_silent : (x : EntryItem) (y : EntryItem) → submission_in y.entry.deed ≡ None → same_receipt x y ≡ false
unfolding same_receipt
not_silent x y none = (λ i. (x.tenant == y.tenant) && is_same_receipt (submission_in x.entry.deed) (none i)) ∙ (ap (λ b. (x.tenant == y.tenant) && b) (no_receipt (submission_in x.entry.deed)) ∙ off (x.tenant == y.tenant))

silent_first : (x : EntryItem) (ys : List EntryItem) → submission_in x.entry.deed ≡ None → list_any (same_receipt x) ys ≡ false
unfolding same_receipt
silent_first x [] none = refl
silent_first x (y ∷ ys) none =
    let one : same_receipt x y ≡ false = (λ i. (x.tenant == y.tenant) && is_same_receipt (none i) (submission_in y.entry.deed)) ∙ off (x.tenant == y.tenant) in
    rw one (silent_first x ys none)

none_silent : (x : EntryItem) (t n place : ℕ) (es : List Entry) → AreSilent es → list_any (same_receipt x) (trail_items t n place es) ≡ false
none_silent x t n place [] silent = refl
none_silent x t n place (e ∷ es) silent = rw (not_silent x (record { tenant = t; number = n; place = place; entry = e }) silent.0) (none_silent x t n (place + 1) es silent.1)

-- entries without a submission add nothing
after_silent : (t n place : ℕ) (es : List Entry) (more : List EntryItem) → AreSilent es → are_apart same_receipt more ≡ true → are_apart same_receipt (trail_items t n place es ++ more) ≡ true
after_silent t n place [] more silent apart = apart
after_silent t n place (e ∷ es) more silent apart =
    rw (silent_first (record { tenant = t; number = n; place = place; entry = e }) (trail_items t n (place + 1) es ++ more) silent.0) (after_silent t n (place + 1) es more silent.1 apart)

-- ---- reports

-- a report of a tenant has the receipt of this trail
abbrev has_same : ℕ → ℕ → List Entry → List Report → Bool
has_same t n trail rs = list_any (same_case (record { number = n; trail = trail })) (cases_of rs t)

abbrev report_at : ℕ → ℕ → List Entry → Report
report_at t n trail = record { tenant = t; number = n; trail = trail }

same_turned : (t u : ℕ) (b : Bool) → (u == t) ≡ b → (t == u) ≡ b
same_turned t u b is = eq_sym t u ∙ is
  where
    eq_sym : (x y : ℕ) → (x == y) ≡ (y == x)
    eq_sym x y = grind (arith, nat_tests)

-- one more report, of this tenant or another
one_other : (t u n m : ℕ) (e f : Entry) (es fs : List Entry) (rs : List Report) → is_some (submission_in e.deed) ≡ true → is_some (submission_in f.deed) ≡ true → AreSilent es → AreSilent fs → has_same t n (e ∷ es) (report_at u m (f ∷ fs) ∷ rs) ≡ false
    → (same_receipt (item t n e) (item u m f) ≡ false) × (has_same t n (e ∷ es) rs ≡ false)
unfolding same_receipt
one_other t u n m e f es fs rs first second silent still none = by (u == t) refl none
  where
    away : (b : Bool) → (t == u) ≡ b → b ≡ false → same_receipt (item t n e) (item u m f) ≡ false
    away b is none = ap (λ c. c && is_same_receipt (submission_in e.deed) (submission_in f.deed)) (is ∙ none)

    by : (b : Bool) → (u == t) ≡ b → list_any (same_case (record { number = n; trail = e ∷ es })) (map case_of (cond b (report_at u m (f ∷ fs) ∷ filter (λ (r : Report). r.tenant == t) rs) (filter (λ (r : Report). r.tenant == t) rs))) ≡ false
        → (same_receipt (item t n e) (item u m f) ≡ false) × (has_same t n (e ∷ es) rs ≡ false)
    by true is none =
        let parts = or_parts (same_case (record { number = n; trail = e ∷ es }) (record { number = m; trail = f ∷ fs })) (has_same t n (e ∷ es) rs) none in
        (sym (same_submission t u n m e f es fs (same_turned t u true is) first second silent still) ∙ parts.0, parts.1)
    by false is none = (away false (same_turned t u false is) refl, none)

module _ (lists : Lists) where
  -- a report's receipt is no other report's
  none_later : (t n : ℕ) (e : Entry) (es : List Entry) (rs : List Report) → is_some (submission_in e.deed) ≡ true → AreSilent es → list_all (is_legal_report lists) rs ≡ true → has_same t n (e ∷ es) rs ≡ false → list_any (same_receipt (item t n e)) (entry_items rs) ≡ false
  none_later t n e es [] first silent legal none = refl
  none_later t n e es (r ∷ rs) first silent legal none =
      let legals = and_parts (is_legal_report lists r) (list_all (is_legal_report lists) rs) legal in
      by r.tenant r.number r.trail legals.0 none (none_later t n e es rs first silent legals.1)
    where
      by : (u m : ℕ) (trail : List Entry) → is_legal_report lists (report_at u m trail) ≡ true → has_same t n (e ∷ es) (report_at u m trail ∷ rs) ≡ false → (has_same t n (e ∷ es) rs ≡ false → list_any (same_receipt (item t n e)) (entry_items rs) ≡ false)
          → list_any (same_receipt (item t n e)) (trail_items u m 1 trail ++ entry_items rs) ≡ false
      by u m [] own apart rest = absurd (false≢true own)
      by u m (f ∷ fs) own apart rest =
          let begun = begins_so (days lists u) f fs own in
          let both = one_other t u n m e f es fs rs first begun.0 silent begun.1 apart in
          rw both.0 (list_any-append (same_receipt (item t n e)) (trail_items u m 2 fs) (entry_items rs) ∙ rw (none_silent (item t n e) u m 2 fs begun.1) (rest both.1))

  -- those of the later reports are distinct too
  rest_apart : (t : ℕ) (r : Report) (rs : List Report) → are_apart same_case (cases_of (r ∷ rs) t) ≡ true → are_apart same_case (cases_of rs t) ≡ true
  rest_apart t r rs apart = by (r.tenant == t) apart
    where
      by : (b : Bool) → are_apart same_case (map case_of (cond b (r ∷ filter (λ (x : Report). x.tenant == t) rs) (filter (λ (x : Report). x.tenant == t) rs))) ≡ true → are_apart same_case (cases_of rs t) ≡ true
      by true e = (and_parts (not (list_any (same_case (case_of r)) (cases_of rs t))) (are_apart same_case (cases_of rs t)) e).1
      by false e = e

  head_apart : (t n : ℕ) (trail : List Entry) (rs : List Report) → are_apart same_case (cases_of (report_at t n trail ∷ rs) t) ≡ true → has_same t n trail rs ≡ false
  head_apart t n trail rs apart = negated (has_same t n trail rs) (and_parts (not (has_same t n trail rs)) (are_apart same_case (cases_of rs t)) ((λ i. are_apart same_case (map case_of (cond (sym (eq-eqb t t refl) i) (report_at t n trail ∷ filter (λ (x : Report). x.tenant == t) rs) (filter (λ (x : Report). x.tenant == t) rs)))) ∙ apart)).0
    where
      negated : (b : Bool) → not b ≡ true → b ≡ false
      negated true e = absurd (false≢true e)
      negated false e = refl

  pub submissions-apart : (rs : List Report) → list_all (is_legal_report lists) rs ≡ true → ((t : ℕ) → are_apart same_case (cases_of rs t) ≡ true) → are_apart same_receipt (entry_items rs) ≡ true
  submissions-apart [] legal apart = refl
  submissions-apart (r ∷ rs) legal apart =
      let legals = and_parts (is_legal_report lists r) (list_all (is_legal_report lists) rs) legal in
      by r.tenant r.number r.trail legals.0 (apart r.tenant) (submissions-apart rs legals.1 (λ t. rest_apart t r rs (apart t)))
    where
      by : (t n : ℕ) (trail : List Entry) → is_legal_report lists (report_at t n trail) ≡ true → are_apart same_case (cases_of (report_at t n trail ∷ rs) t) ≡ true → are_apart same_receipt (entry_items rs) ≡ true → are_apart same_receipt (trail_items t n 1 trail ++ entry_items rs) ≡ true
      by t n [] own one rest = absurd (false≢true own)
      by t n (e ∷ es) own one rest =
          let begun = begins_so (days lists t) e es own in
          let later = none_later t n e es rs begun.0 begun.1 (and_parts (is_legal_report lists r) (list_all (is_legal_report lists) rs) legal).1 (head_apart t n (e ∷ es) rs one) in
          let none : list_any (same_receipt (item t n e)) (trail_items t n 2 es ++ entry_items rs) ≡ false =
          list_any-append (same_receipt (item t n e)) (trail_items t n 2 es) (entry_items rs) ∙ rw (none_silent (item t n e) t n 2 es begun.1) later in
          rw none (after_silent t n 2 es (entry_items rs) begun.1 rest)
