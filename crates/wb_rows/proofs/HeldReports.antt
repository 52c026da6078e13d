-- What is so of all entries that are read is so of those of each report, and so of what is held of a tenant's reports.
use Rattle.std.proofs.Common.{◌≡◌, inl, inr, ℕ, ◌+◌, ◌<◌, Bool, true, false, cond, List, [], ◌∷◌, map, find, filter, Some, refl, sym, ap, ◌∙◌, subst, arith}
use Rattle.std.proofs.lemmas.Bool.{and_from, and_parts, eq-eqb, eqb-true, false≢true}
use Rattle.std.proofs.lemmas.Bool.Decides.{nat_tests}
use Rattle.std.proofs.lemmas.Cmp.{ranked}
use Rattle.std.proofs.lemmas.List.Folds.{list_all-append}
use Rattle.std.specs.Cmp.{nat_cmp_is}
use Rattle.std.specs.List.{AllByRecursion, list_all}
use Rattle.std.specs.List.Sorted.{IsStrictlySortedBy}
use Rattle.std.specs.Option.{option_map}
use Rattle.std.specs.Ordering.{nat_cmp, ordering_then}
use Rattle.std.specs.Prelude.{◌==◌, is_some, nat_lt}
use Rattle.std.specs.declared.cmp.Ordering.TheVariants.{Less, Equal}
use Rattle.wb_custody.specs.SealedAnswers.{pair_cmp}
use Rattle.wb_row_codec.specs.declared.item.EntryItem.{EntryItem}
use Rattle.wb_list.specs.Keyed.{IsAscending}
use Rattle.wb_model.specs.declared.entry.Entry.{Entry}
use Rattle.wb_model.specs.declared.registry.Lists.{Lists}
use Rattle.wb_model.specs.Legal.{ascends_from}
use Rattle.wb_model.specs.Tables.{Case, has_number, report}
use Rattle.wb_model.specs.Trails.{submission_in}
use Rattle.wb_model.proofs.Found.{Held, find_passing, held_filter}
use Rattle.wb_model.proofs.TurnRows.{map_held}
use Rattle.wb_rows.specs.Reports.{Report}
use Rattle.wb_rows.specs.HeldItems.{entry_items, report_items, trail_items}
use Rattle.wb_rows.specs.Openings.{case_of, cases_of}
use Rattle.wb_rows.specs.Places.{report_place}
use Rattle.wb_rows.specs.ReportRules.{is_report}
use Rattle.wb_rows.specs.TrailRule.{is_legal_report, days}
use Rattle.wb_rows.proofs.Lookups.{find-map}
use Rattle.wb_rows.proofs.SealedRows.{other_place}
use Rattle.wb_rows.proofs.WholeTrails.{AreSilent, begins_so}

-- ---- what is in a list

pub held-true : {X : Type 0} (test : X → Bool) (xs : List X) → list_all test xs ≡ true → (x : X) → Held x xs → test x ≡ true
held-true test [] all x held = absurd held
held-true test (y ∷ ys) all x (inl is) = ap test is ∙ (and_parts (test y) (list_all test ys) all).0
held-true test (y ∷ ys) all x (inr held) = held-true test ys (and_parts (test y) (list_all test ys) all).1 x held

pub all-true : {X : Type 0} (test : X → Bool) (xs : List X) → ((x : X) → Held x xs → test x ≡ true) → list_all test xs ≡ true
all-true test [] so = refl
all-true test (x ∷ xs) so = and_from (test x) (list_all test xs) (so x (inl refl)) (all-true test xs (λ y held. so y (inr held)))

pub all-at : {X Y : Type 0} (P : Y → Type 0) (f : X → Y) (xs : List X) → AllByRecursion P (map f xs) → (x : X) → Held x xs → P (f x)
all-at P f [] all x held = absurd held
all-at P f (y ∷ ys) all x (inl is) = subst (λ z. P (f z)) (sym is) all.0
all-at P f (y ∷ ys) all x (inr held) = all-at P f ys all.1 x held

-- ---- the entries of a report

pub items-held : (test : EntryItem → Bool) (rs : List Report) → list_all test (entry_items rs) ≡ true → (r : Report) → Held r rs → list_all test (report_items r) ≡ true
items-held test [] all r held = absurd held
items-held test (x ∷ xs) all r (inl is) =
    let parts = and_parts (list_all test (report_items x)) (list_all test (entry_items xs)) (sym (list_all-append test (report_items x) (entry_items xs)) ∙ all) in
    subst (λ y. list_all test (report_items y) ≡ true) (sym is) parts.0
items-held test (x ∷ xs) all r (inr held) =
    let parts = and_parts (list_all test (report_items x)) (list_all test (entry_items xs)) (sym (list_all-append test (report_items x) (entry_items xs)) ∙ all) in
    items-held test xs parts.1 r held

pub trail-all : (given : EntryItem → Bool) (test : Entry → Bool) (t n : ℕ) → ((place : ℕ) (e : Entry) → given (record { tenant = t; number = n; place = place; entry = e }) ≡ true → test e ≡ true) → (place : ℕ) (es : List Entry) → list_all given (trail_items t n place es) ≡ true → list_all test es ≡ true
trail-all given test t n so place [] all = refl
trail-all given test t n so place (e ∷ es) all =
    let parts = and_parts (given (record { tenant = t; number = n; place = place; entry = e })) (list_all given (trail_items t n (place + 1) es)) all in
    and_from (test e) (list_all test es) (so place e parts.0) (trail-all given test t n so (place + 1) es parts.1)

-- ---- the reports of a tenant

abbrev pub report_with : ℕ → ℕ → List Entry → Report
report_with t n trail = record { tenant = t; number = n; trail = trail }

abbrev of_tenant : ℕ → Report → Bool
of_tenant t r = r.tenant == t

pub begins-so : (lists : Lists) (t n : ℕ) (e : Entry) (es : List Entry) (rs : List Report) → list_all (is_legal_report lists) rs ≡ true → Held (report_with t n (e ∷ es)) rs → (is_some (submission_in e.deed) ≡ true) × AreSilent es
begins-so lists t n e es rs legal held = begins_so (days lists t) e es (held-true (is_legal_report lists) rs legal (report_with t n (e ∷ es)) held)

-- what is so of each of its reports, whose trails have a first entry, is so of its cases
pub cases-all : (lists : Lists) (t : ℕ) (rs : List Report) → list_all (is_legal_report lists) rs ≡ true → (test : Case → Bool) → ((n : ℕ) (e : Entry) (es : List Entry) → Held (report_with t n (e ∷ es)) rs → test (record { number = n; trail = e ∷ es }) ≡ true) → list_all test (cases_of rs t) ≡ true
cases-all lists t rs legal test so = all-true test (cases_of rs t) (λ c held. one c (map_held case_of (filter (of_tenant t) rs) c held))
  where
    at : (n : ℕ) (trail : List Entry) → Held (report_with t n trail) rs → test (record { number = n; trail = trail }) ≡ true
    at n [] held = absurd (false≢true (held-true (is_legal_report lists) rs legal (report_with t n []) held))
    at n (e ∷ es) held = so n e es held

    one : (c : Case) → (r : Report) × (Held r (filter (of_tenant t) rs) × (c ≡ case_of r)) → test c ≡ true
    one c found =
        let r : Report = found.0 in
        let parts = held_filter (of_tenant t) rs r found.1.0 in
        let here = eqb-true r.tenant t parts.1 in
        ap test found.1.1 ∙ at r.number r.trail (subst (λ x. Held x rs) (λ i. record { tenant = here i; number = r.number; trail = r.trail }) parts.0)

-- what is so of the tenant and number of each entry is so of those of each report
pub firsts-all : (lists : Lists) (rs : List Report) → list_all (is_legal_report lists) rs ≡ true → (test : ℕ → ℕ → Bool) → list_all (λ (x : EntryItem). test x.tenant x.number) (entry_items rs) ≡ true → list_all (λ (r : Report). test r.tenant r.number) rs ≡ true
firsts-all lists rs legal test all = all-true (λ (r : Report). test r.tenant r.number) rs (λ r held. by r.tenant r.number r.trail held)
  where
    by : (t n : ℕ) (trail : List Entry) → Held (report_with t n trail) rs → test t n ≡ true
    by t n [] held = absurd (false≢true (held-true (is_legal_report lists) rs legal (report_with t n []) held))
    by t n (e ∷ es) held = (and_parts (test t n) (list_all (λ (x : EntryItem). test x.tenant x.number) (trail_items t n 2 es)) (items-held (λ (x : EntryItem). test x.tenant x.number) rs all (report_with t n (e ∷ es)) held)).0

-- a report of a number is that of the tenant and the number
pub report-found : (t n : ℕ) (rs : List Report) → report n (cases_of rs t) ≡ option_map case_of (find (is_report t n) rs)
report-found t n rs = find-map case_of (has_number n) (filter (of_tenant t) rs) ∙ ap (option_map case_of) (find_passing (λ (r : Report). r.number == n) (of_tenant t) rs)

-- ---- their order

-- a report is found by its tenant and its number
pub found-own : (rs : List Report) → IsAscending pair_cmp report_place rs → (r : Report) → Held r rs → find (is_report r.tenant r.number) rs ≡ Some r
unfolding IsStrictlySortedBy
found-own [] order r held = absurd held
found-own (x ∷ xs) order r (inl is) =
    let t = eq-eqb x.tenant r.tenant (ap (λ (y : Report). y.tenant) (sym is)) in
    let n = eq-eqb x.number r.number (ap (λ (y : Report). y.number) (sym is)) in
    rw (t, n) (ap (λ y. Some y) (sym is))
found-own (x ∷ xs) order r (inr held) =
    let other = other_place (report_place x) (report_place r) (all-at (λ q. pair_cmp (report_place x) q ≡ Less) report_place xs order.0 r held) in
    (λ i. cond (other i) (Some x) (find (is_report r.tenant r.number) xs)) ∙ found-own xs order.1 r held

number_before : (p q : ℕ × ℕ) → pair_cmp p q ≡ Less → p.0 ≡ q.0 → p.1 < q.1
number_before p q less same = ranked p.1 q.1 Less (sym (ap (λ o. ordering_then o (nat_cmp p.1 q.1)) (nat_cmp_is p.0 q.0 Equal same) ∙ less))

pub numbers-ascend : (t k : ℕ) (rs : List Report) → IsAscending pair_cmp report_place rs → ((r : Report) → Held r rs → r.tenant ≡ t → k < r.number) → ascends_from k (map (λ (c : Case). c.number) (cases_of rs t)) ≡ true
unfolding IsStrictlySortedBy
numbers-ascend t k [] order above = refl
numbers-ascend t k (r ∷ rs) order above =
    by (r.tenant == t) refl
    (λ here. numbers-ascend t r.number rs order.1 (λ s held there. number_before (report_place r) (report_place s) (all-at (λ q. pair_cmp (report_place r) q ≡ Less) report_place rs order.0 s held) (here ∙ sym there)))
    (numbers-ascend t k rs order.1 (λ s held there. above s (inr held) there))
  where
    by : (b : Bool) → (r.tenant == t) ≡ b → (r.tenant ≡ t → ascends_from r.number (map (λ (c : Case). c.number) (cases_of rs t)) ≡ true) → ascends_from k (map (λ (c : Case). c.number) (cases_of rs t)) ≡ true
        → ascends_from k (map (λ (c : Case). c.number) (map case_of (cond b (r ∷ filter (of_tenant t) rs) (filter (of_tenant t) rs)))) ≡ true
    by true is own rest =
        let here = eqb-true r.tenant t is in
        let lt = above r (inl refl) here in
        and_from (nat_lt k r.number) (ascends_from r.number (map (λ (c : Case). c.number) (cases_of rs t))) (grind (arith, nat_tests, lt)) (own here)
    by false is own rest = rest
