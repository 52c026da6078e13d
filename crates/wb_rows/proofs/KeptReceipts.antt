-- Where no two submissions to a tenant have one receipt, the receipts of its reports are distinct.
use Rattle.std.proofs.Common.{◌≡◌, ℕ, Bool, true, false, cond, not, List, [], ◌∷◌, ◌++◌, map, filter, Option, Some, None, refl, sym, ap, ◌∙◌}
use Rattle.std.proofs.lemmas.Bool.{and_from, and_parts, false≢true}
use Rattle.std.proofs.lemmas.List.Folds.{list_any-append}
use Rattle.std.specs.List.{list_all, list_any}
use Rattle.std.specs.Option.{option_map}
use Rattle.std.specs.Prelude.{◌==◌, ◌&&◌, ◌||◌, is_some, unwrap_or}
use Rattle.wb_base.specs.AnswerList.{is_text}
use Rattle.wb_row_codec.specs.declared.item.EntryItem.{EntryItem}
use Rattle.wb_model.specs.declared.entry.Entry.{Entry}
use Rattle.wb_model.specs.declared.registry.Lists.{Lists}
use Rattle.wb_model.specs.KeptRules.{same_receipt as same_case}
use Rattle.wb_model.specs.Legal.{is_legal}
use Rattle.wb_model.specs.SetUps.{are_apart}
use Rattle.wb_model.specs.Trails.{Submission, submission_in}
use Rattle.wb_rows.specs.Reports.{Report}
use Rattle.wb_rows.specs.HeldItems.{entry_items, report_items, trail_items}
use Rattle.wb_rows.specs.Openings.{case_of, cases_of}
use Rattle.wb_rows.specs.ReportRules.{is_same_receipt, same_receipt}
use Rattle.wb_rows.specs.TrailRule.{is_legal_report, days}
use Rattle.wb_rows.proofs.HeldReports.{begins-so, cases-all, items-held, report_with}
use Rattle.wb_rows.proofs.WholeTrails.{AreSilent, begins_so, receipt-first}

-- ---- lists

not_second : (a b : Bool) → not (a || b) ≡ true → b ≡ false
not_second false false e = refl
not_second false true e = absurd (false≢true e)
not_second true b e = absurd (false≢true e)

none_of : {X : Type 0} (test : X → Bool) (xs : List X) → list_any test xs ≡ false → list_all (λ x. not (test x)) xs ≡ true
none_of test [] none = refl
none_of {X} test (x ∷ xs) none = by (test x) none (none_of test xs)
  where
    by : (b : Bool) → (b || list_any test xs) ≡ false → (list_any test xs ≡ false → list_all (λ y. not (test y)) xs ≡ true) → (not b && list_all (λ y. not (test y)) xs) ≡ true
    by true e rest = absurd (false≢true (sym e))
    by false e rest = rest e

no_one : {X : Type 0} (test : X → Bool) (xs : List X) → list_all (λ x. not (test x)) xs ≡ true → not (list_any test xs) ≡ true
no_one test [] all = refl
no_one {X} test (x ∷ xs) all = by (test x) all (no_one test xs)
  where
    by : (b : Bool) → (not b && list_all (λ y. not (test y)) xs) ≡ true → (list_all (λ y. not (test y)) xs ≡ true → not (list_any test xs) ≡ true) → not (b || list_any test xs) ≡ true
    by true e rest = absurd (false≢true e)
    by false e rest = rest e

apart_rest : {X : Type 0} (same : X → X → Bool) (xs ys : List X) → are_apart same (xs ++ ys) ≡ true → are_apart same ys ≡ true
apart_rest same [] ys apart = apart
apart_rest same (x ∷ xs) ys apart = apart_rest same xs ys (and_parts (not (list_any (same x) (xs ++ ys))) (are_apart same (xs ++ ys)) apart).1

-- ---- first entries

abbrev digest : Option Submission → List ℕ
digest o = unwrap_or (option_map (λ (s : Submission). s.receipt) o) []

same_first : (o p : Option Submission) → is_some o ≡ true → is_some p ≡ true → is_text (digest o) (digest p) ≡ is_same_receipt o p
same_first None p first second = absurd (false≢true first)
same_first (Some s) None first second = absurd (false≢true second)
same_first (Some s) (Some r) first second = refl

abbrev pub item : ℕ → ℕ → Entry → EntryItem
item t n e = record { tenant = t; number = n; place = 1; entry = e }

-- two reports of a tenant have the same receipt where their submissions do
pub same_submission : (t u m n : ℕ) (e f : Entry) (es fs : List Entry) → (t == u) ≡ true → is_some (submission_in e.deed) ≡ true → is_some (submission_in f.deed) ≡ true → AreSilent es → AreSilent fs
    → same_case (record { number = m; trail = e ∷ es }) (record { number = n; trail = f ∷ fs }) ≡ same_receipt (item t m e) (item u n f)
unfolding same_receipt
same_submission t u m n e f es fs here first second silent still =
    (λ i. is_text (receipt-first e es silent i) (receipt-first f fs still i))
    ∙ (same_first (submission_in e.deed) (submission_in f.deed) first second
    ∙ ap (λ b. b && is_same_receipt (submission_in e.deed) (submission_in f.deed)) (sym here))

-- ---- the reports of a tenant

module _ (lists : Lists) (t : ℕ) where
  -- the first report's receipt is no later one's
  alone : (u m : ℕ) (e : Entry) (es : List Entry) (rs : List Report) → (u == t) ≡ true → is_some (submission_in e.deed) ≡ true → AreSilent es → list_all (is_legal_report lists) rs ≡ true
      → list_all (λ y. not (same_receipt (item u m e) y)) (entry_items rs) ≡ true → not (list_any (same_case (record { number = m; trail = e ∷ es })) (cases_of rs t)) ≡ true
  alone u m e es rs here first silent legal others =
      no_one (same_case (record { number = m; trail = e ∷ es })) (cases_of rs t)
      (cases-all lists t rs legal (λ d. not (same_case (record { number = m; trail = e ∷ es }) d)) (λ n f fs held. (let begun = begins-so lists t n f fs rs legal held in
      let own = items-held (λ y. not (same_receipt (item u m e) y)) rs others (report_with t n (f ∷ fs)) held in
      ap not (same_submission u t m n e f es fs here first begun.0 silent begun.1) ∙ (and_parts (not (same_receipt (item u m e) (item t n f))) (list_all (λ y. not (same_receipt (item u m e) y)) (trail_items t n 2 fs)) own).0)))

  one_more : (u m : ℕ) (trail : List Entry) (rs : List Report) → (u == t) ≡ true → is_legal (days lists u) trail ≡ true → list_all (is_legal_report lists) rs ≡ true → are_apart same_receipt (trail_items u m 1 trail ++ entry_items rs) ≡ true
      → are_apart same_case (cases_of rs t) ≡ true → are_apart same_case (record { number = m; trail = trail } ∷ cases_of rs t) ≡ true
  one_more u m [] rs here legal legals apart rest = absurd (false≢true legal)
  one_more u m (e ∷ es) rs here legal legals apart rest =
      let begun = begins_so (days lists u) e es legal in
      let parts = and_parts (not (list_any (same_receipt (item u m e)) (trail_items u m 2 es ++ entry_items rs))) (are_apart same_receipt (trail_items u m 2 es ++ entry_items rs)) apart in
      let later = not_second (list_any (same_receipt (item u m e)) (trail_items u m 2 es)) (list_any (same_receipt (item u m e)) (entry_items rs)) (ap not (sym (list_any-append (same_receipt (item u m e)) (trail_items u m 2 es) (entry_items rs))) ∙ parts.0) in
      and_from (not (list_any (same_case (record { number = m; trail = e ∷ es })) (cases_of rs t))) (are_apart same_case (cases_of rs t)) (alone u m e es rs here begun.0 begun.1 legals (none_of (same_receipt (item u m e)) (entry_items rs) later)) rest

  pub receipts-apart : (rs : List Report) → list_all (is_legal_report lists) rs ≡ true → are_apart same_receipt (entry_items rs) ≡ true → are_apart same_case (cases_of rs t) ≡ true
  receipts-apart [] legal apart = refl
  receipts-apart (r ∷ rs) legal apart =
      let legals = and_parts (is_legal_report lists r) (list_all (is_legal_report lists) rs) legal in
      by (r.tenant == t) refl (λ here rest. one_more r.tenant r.number r.trail rs here legals.0 legals.1 apart rest) (receipts-apart rs legals.1 (apart_rest same_receipt (report_items r) (entry_items rs) apart))
    where
      by : (b : Bool) → (r.tenant == t) ≡ b → ((r.tenant == t) ≡ true → are_apart same_case (cases_of rs t) ≡ true → are_apart same_case (case_of r ∷ cases_of rs t) ≡ true) → are_apart same_case (cases_of rs t) ≡ true
          → are_apart same_case (map case_of (cond b (r ∷ filter (λ (x : Report). x.tenant == t) rs) (filter (λ (x : Report). x.tenant == t) rs))) ≡ true
      by true is own rest = own is rest
      by false is own rest = rest
