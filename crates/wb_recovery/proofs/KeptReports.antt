-- Reports that are added to their tenants one after another.
use Rattle.std.proofs.Common.{◌≡◌, ◌≢◌, ◌⊎◌, inl, inr, ℕ, zero, suc, ◌<◌, ◌≤◌, Bool, true, false, cond, List, [], ◌∷◌, ◌++◌, append_assoc, length, map, find, set, get_or, Some, None, Result, Ok, Err, refl, sym, ap, ◌∙◌, subst, arith, eq-eqb, ne_eqb}
use Rattle.std.specs.Prelude.{◌==◌, ◌&&◌, ◌||◌, is_some, nat_lt, if◌then◌else◌, OnOk}
use Rattle.std.specs.List.{AllByRecursion, list_all}
use Rattle.std.proofs.lemmas.Bool.{and_parts, cases_eq}
use Rattle.std.proofs.lemmas.List.{append-nil}
use Rattle.wb_model.specs.declared.registry.Lists.{Lists}
use Rattle.wb_model.specs.declared.entry.Entry.{Entry}
use Rattle.wb_model.specs.Legal.{Reckoning, ascends_from, is_first, is_legal, legal_from, right_actor, right_values}
use Rattle.wb_model.specs.Opened.{Apart, AtMost}
use Rattle.wb_model.specs.Tables.{Case, has_receipt}
use Rattle.wb_model.specs.Trails.{submission_in}
use Rattle.wb_rows.specs.Reports.{Report}
use Rattle.wb_rows.specs.Held.{Held}
use Rattle.wb_rows.specs.Openings.{case_of, cases_of}
use Rattle.wb_rows.specs.TrailRule.{is_legal_report, days}
use Rattle.wb_tables.specs.declared.tenancy.Tenancy.{Tenancy as KeptTenancy}
use Rattle.wb_tables.specs.Kept.{PlainTenancy, place_of}
use Rattle.wb_tables.specs.Places.{is_tenant}
use Rattle.wb_tables.specs.Receipted.{HasOwnReceipt, is_submitted}
use Rattle.wb_recovery.specs.HeldPlaces.{AreToCome, bare, held_place, with_case, with_report, with_reports}
use Rattle.wb_recovery.proofs.OpenedPlaces.{below}

abbrev pub id_of : PlainTenancy → ℕ
id_of x = x.id

abbrev pub ids : List PlainTenancy → List ℕ
ids xs = map id_of xs

abbrev pub Rise : ℕ → List PlainTenancy → Type 0
Rise k xs = ascends_from k (ids xs) ≡ true

-- ---- one report

-- a tenant with another id is as it was
other_report : (r : Report) (x : PlainTenancy) → r.tenant ≢ x.id → with_report r x ≡ x
other_report r x ne = rw (ne_eqb r.tenant x.id ne) refl

own_report : (r : Report) (x : PlainTenancy) → r.tenant ≡ x.id → with_report r x ≡ with_case r x
own_report r x is = rw (eq-eqb r.tenant x.id is) refl

above_same : (r : Report) (k : ℕ) (xs : List PlainTenancy) → r.tenant ≤ k → Rise k xs → map (with_report r) xs ≡ xs
above_same r k [] le rise = refl
above_same r k (x ∷ xs) le rise =
    let parts = and_parts (nat_lt k x.id) (ascends_from x.id (ids xs)) rise in
    let lt = below k x.id parts.0 in
    λ i. other_report r x (λ e. omega (arith, e, le, lt)) i ∷ above_same r x.id xs (omega (arith, le, lt)) parts.1 i

pub none_same : (r : Report) (xs : List PlainTenancy) → find (is_tenant r.tenant) xs ≡ None → map (with_report r) xs ≡ xs
none_same r [] none = refl
none_same r (x ∷ xs) none = by (cases_eq x.id r.tenant) (λ e. none_same r xs e)
  where
    by : (x.id ≡ r.tenant) ⊎ (x.id ≡ r.tenant → ⊥) → (find (is_tenant r.tenant) xs ≡ None → map (with_report r) xs ≡ xs) → map (with_report r) (x ∷ xs) ≡ x ∷ xs
    by (inl is) rest = absurd (cc (sym (ap (λ b. cond b (Some x) (find (is_tenant r.tenant) xs)) (eq-eqb x.id r.tenant is)) ∙ none))
    by (inr ne) rest = λ i. other_report r x (λ e. ne (sym e)) i ∷ rest (sym (ap (λ b. cond b (Some x) (find (is_tenant r.tenant) xs)) (ne_eqb x.id r.tenant ne)) ∙ none) i

id_above : (k i : ℕ) (ks : List KeptTenancy) (d : KeptTenancy) → Rise k (map place_of ks) → i < length ks → k < (get_or ks i d).configuration.tenant
id_above k i [] d rise lt = absurd (omega arith)
id_above k zero (x ∷ ks) d rise lt = below k x.configuration.tenant (and_parts (nat_lt k x.configuration.tenant) (ascends_from x.configuration.tenant (ids (map place_of ks))) rise).0
id_above k (suc i) (x ∷ ks) d rise lt =
    let parts = and_parts (nat_lt k x.configuration.tenant) (ascends_from x.configuration.tenant (ids (map place_of ks))) rise in
    let first = below k x.configuration.tenant parts.0 in
    let above : x.configuration.tenant < (get_or ks i d).configuration.tenant = id_above x.configuration.tenant i ks d parts.1 (omega arith) in
    omega (arith, first, above)

-- the tenant at a place is found
pub place_found : (k t i : ℕ) (ks : List KeptTenancy) (d : KeptTenancy) → Rise k (map place_of ks) → i < length ks → (get_or ks i d).configuration.tenant ≡ t → find (is_tenant t) (map place_of ks) ≡ Some (place_of (get_or ks i d))
place_found k t i [] d rise lt is = absurd (omega arith)
place_found k t zero (x ∷ ks) d rise lt is = ap (λ b. cond b (Some (place_of x)) (find (is_tenant t) (map place_of ks))) (eq-eqb x.configuration.tenant t is)
place_found k t (suc j) (x ∷ ks) d rise lt is =
    let parts = and_parts (nat_lt k x.configuration.tenant) (ascends_from x.configuration.tenant (ids (map place_of ks))) rise in
    let above : x.configuration.tenant < (get_or ks j d).configuration.tenant = id_above x.configuration.tenant j ks d parts.1 (omega arith) in
    ap (λ b. cond b (Some (place_of x)) (find (is_tenant t) (map place_of ks))) (ne_eqb x.configuration.tenant t (λ e. omega (arith, e, above, is)))
    ∙ place_found x.configuration.tenant t j ks d parts.1 (omega arith) is

-- the tenant at a place gets the report that is its own
pub report_set : (k i : ℕ) (ks : List KeptTenancy) (y d : KeptTenancy) (r : Report) → Rise k (map place_of ks) → i < length ks → (get_or ks i d).configuration.tenant ≡ r.tenant → place_of y ≡ with_case r (place_of (get_or ks i d))
    → map place_of (set ks i y) ≡ map (with_report r) (map place_of ks)
report_set k i [] y d r rise lt is made = absurd (omega arith)
report_set k zero (x ∷ ks) y d r rise lt is made =
    let parts = and_parts (nat_lt k x.configuration.tenant) (ascends_from x.configuration.tenant (ids (map place_of ks))) rise in
    λ i. (made ∙ sym (own_report r (place_of x) (sym is))) i ∷ sym (above_same r x.configuration.tenant (map place_of ks) (omega (arith, is)) parts.1) i
report_set k (suc j) (x ∷ ks) y d r rise lt is made =
    let parts = and_parts (nat_lt k x.configuration.tenant) (ascends_from x.configuration.tenant (ids (map place_of ks))) rise in
    let above : x.configuration.tenant < (get_or ks j d).configuration.tenant = id_above x.configuration.tenant j ks d parts.1 (omega arith) in
    λ i. sym (other_report r (place_of x) (λ e. omega (arith, e, above, is))) i ∷ report_set x.configuration.tenant j ks y d r parts.1 (omega arith) is made i

ids_same : (r : Report) (x : PlainTenancy) → (with_report r x).id ≡ x.id
ids_same r x = by (r.tenant == x.id)
  where
    by : (b : Bool) → (if b then with_case r x else x).id ≡ x.id
    by true = refl
    by false = refl

all_ids_same : (r : Report) (xs : List PlainTenancy) → ids (map (with_report r) xs) ≡ ids xs
all_ids_same r [] = refl
all_ids_same r (x ∷ xs) = λ i. ids_same r x i ∷ all_ids_same r xs i

pub still_rise : (r : Report) (k : ℕ) (xs : List PlainTenancy) → Rise k xs → Rise k (map (with_report r) xs)
still_rise r k xs rise = ap (λ l. ascends_from k l) (all_ids_same r xs) ∙ rise

-- ---- those that are to come

-- in an order, what comes before a number is below it
before_number : (k : ℕ) (before after : List Case) (c : Case) → ascends_from k (map (λ (x : Case). x.number) (before ++ c ∷ after)) ≡ true → (last : ℕ) × (AtMost last before × (k ≤ last) × (last < c.number))
before_number k [] after c rise = (k, (tt, (omega arith), below k c.number (and_parts (nat_lt k c.number) (ascends_from c.number (map (λ (x : Case). x.number) after)) rise).0))
before_number k (b ∷ before) after c rise =
    let parts = and_parts (nat_lt k b.number) (ascends_from b.number (map (λ (x : Case). x.number) (before ++ c ∷ after))) rise in
    let first = below k b.number parts.0 in
    let rest = before_number b.number before after c parts.1 in
    let le = rest.1.1 in
    (rest.0, ((le, rest.1.0), omega (arith, first, le), rest.1.2))

own_cases : (r : Report) (rs : List Report) (x : PlainTenancy) → r.tenant ≡ x.id → cases_of (r ∷ rs) x.id ≡ case_of r ∷ cases_of rs x.id
own_cases r rs x is = rw (eq-eqb r.tenant x.id is) refl

other_cases : (r : Report) (rs : List Report) (x : PlainTenancy) → r.tenant ≢ x.id → cases_of (r ∷ rs) x.id ≡ cases_of rs x.id
other_cases r rs x ne = rw (ne_eqb r.tenant x.id ne) refl

numbers_below : (r : Report) (rs : List Report) (x : PlainTenancy) → r.tenant ≡ x.id → AreToCome (r ∷ rs) x → (last : ℕ) × (AtMost last x.plain.cases × (last < r.number))
numbers_below r rs x is come =
    let found = before_number 0 x.plain.cases (cases_of rs x.id) (case_of r) (ap (λ l. ascends_from 0 (map (λ (c : Case). c.number) (x.plain.cases ++ l))) (sym (own_cases r rs x is)) ∙ come.numbers) in
    (found.0, (found.1.0, found.1.2))

-- where no two have one key, what comes before an item has another
some_within : {X : Type 0} (p : X → Bool) (before after : List X) (x : X) → p x ≡ true → find p (before ++ x ∷ after) ≡ None → ⊥
some_within p [] after x has none = absurd (cc (sym (ap (λ b. cond b (Some x) (find p after)) has) ∙ none))
some_within {X} p (y ∷ before) after x has none = by (p y) none (λ e. some_within p before after x has e)
  where
    by : (b : Bool) → cond b (Some y) (find p (before ++ x ∷ after)) ≡ None → (find p (before ++ x ∷ after) ≡ None → ⊥) → ⊥
    by true e rest = cc e
    by false e rest = rest e

none_before : {K X : Type 0} (P : K → X → Bool) (before after : List X) (x : X) (k : K) → Apart P (before ++ x ∷ after) → P k x ≡ true → find (P k) before ≡ None
none_before P [] after x k apart has = refl
none_before P (y ∷ before) after x k apart has = by (P k y) refl (none_before P before after x k apart.1 has)
  where
    by : (b : Bool) → P k y ≡ b → find (P k) before ≡ None → cond b (Some y) (find (P k) before) ≡ None
    by true is rest = absurd (some_within (P k) before after x has (apart.0 k is))
    by false is rest = rest

receipts_below : (r : Report) (rs : List Report) (x : PlainTenancy) → r.tenant ≡ x.id → AreToCome (r ∷ rs) x → HasOwnReceipt r.trail x.plain.cases
receipts_below r rs x is come = λ d has. none_before has_receipt x.plain.cases (cases_of rs x.id) (case_of r) d (subst (λ l. Apart has_receipt (x.plain.cases ++ l)) (own_cases r rs x is) come.receipts) has

-- the tenant that is found is such, and has the report's tenant's id
found_come : (r : Report) (rs : List Report) (xs : List PlainTenancy) (x : PlainTenancy) → AllByRecursion (AreToCome (r ∷ rs)) xs → find (is_tenant r.tenant) xs ≡ Some x → (r.tenant ≡ x.id) × AreToCome (r ∷ rs) x
found_come r rs [] x come found = absurd (cc (found))
found_come r rs (y ∷ ys) x come found = by (cases_eq y.id r.tenant) (λ e. found_come r rs ys x come.1 e)
  where
    by : (y.id ≡ r.tenant) ⊎ (y.id ≡ r.tenant → ⊥) → (find (is_tenant r.tenant) ys ≡ Some x → (r.tenant ≡ x.id) × AreToCome (r ∷ rs) x) → (r.tenant ≡ x.id) × AreToCome (r ∷ rs) x
    by (inl is) rest =
        let one : y ≡ x = (let some : Some y ≡ Some x = sym (ap (λ b. cond b (Some y) (find (is_tenant r.tenant) ys)) (eq-eqb y.id r.tenant is)) ∙ found in cc (some)) in
        (sym is ∙ ap id_of one, subst (AreToCome (r ∷ rs)) one come.0)
    by (inr ne) rest = rest (sym (ap (λ b. cond b (Some y) (find (is_tenant r.tenant) ys)) (ne_eqb y.id r.tenant ne)) ∙ found)

pub found_below : (r : Report) (rs : List Report) (xs : List PlainTenancy) (x : PlainTenancy) → AllByRecursion (AreToCome (r ∷ rs)) xs → find (is_tenant r.tenant) xs ≡ Some x → (last : ℕ) × (AtMost last x.plain.cases × (last < r.number))
found_below r rs xs x come found = let one = found_come r rs xs x come found in numbers_below r rs x one.0 one.1

pub found_own : (r : Report) (rs : List Report) (xs : List PlainTenancy) (x : PlainTenancy) → AllByRecursion (AreToCome (r ∷ rs)) xs → find (is_tenant r.tenant) xs ≡ Some x → HasOwnReceipt r.trail x.plain.cases
found_own r rs xs x come found = let one = found_come r rs xs x come found in receipts_below r rs x one.0 one.1

-- a tenant's reports, with those that are to come
abbrev those : List Report → PlainTenancy → List Case
those rs x = x.plain.cases ++ cases_of rs x.id

those_same : (r : Report) (rs : List Report) (x : PlainTenancy) → those (r ∷ rs) x ≡ those rs (with_report r x)
those_same r rs x = by (cases_eq r.tenant x.id)
  where
    by : (r.tenant ≡ x.id) ⊎ (r.tenant ≡ x.id → ⊥) → those (r ∷ rs) x ≡ those rs (with_report r x)
    by (inl is) = ap (λ l. x.plain.cases ++ l) (own_cases r rs x is) ∙ (sym (append_assoc x.plain.cases (case_of r ∷ []) (cases_of rs x.id)) ∙ ap (those rs) (sym (own_report r x is)))
    by (inr ne) = ap (λ l. x.plain.cases ++ l) (other_cases r rs x ne) ∙ ap (those rs) (sym (other_report r x ne))

still_comes : (r : Report) (rs : List Report) (x : PlainTenancy) → AreToCome (r ∷ rs) x → AreToCome rs (with_report r x)
still_comes r rs x come = record {
  numbers = subst (λ l. ascends_from 0 (map (λ (c : Case). c.number) l) ≡ true) (those_same r rs x) come.numbers;
  receipts = subst (Apart has_receipt) (those_same r rs x) come.receipts;
}

pub all_still_come : (r : Report) (rs : List Report) (xs : List PlainTenancy) → AllByRecursion (AreToCome (r ∷ rs)) xs → AllByRecursion (AreToCome rs) (map (with_report r) xs)
all_still_come r rs [] come = tt
all_still_come r rs (x ∷ xs) come = (still_comes r rs x come.0, all_still_come r rs xs come.1)

-- ---- all of them

pub reports_step : (r : Report) (rs : List Report) (xs : List PlainTenancy) → map (with_reports (r ∷ rs)) xs ≡ map (with_reports rs) (map (with_report r) xs)
reports_step r rs [] = refl
reports_step r rs (x ∷ xs) = ap (λ l. with_reports rs (with_report r x) ∷ l) (reports_step r rs xs)

pub none_left : (xs : List PlainTenancy) → map (with_reports []) xs ≡ xs
none_left [] = refl
none_left (x ∷ xs) = ap (λ l. x ∷ l) (none_left xs)

-- a tenant's reports after those that it has
abbrev after_cases : PlainTenancy → List Case → PlainTenancy
after_cases x cs = record x { plain = record x.plain { cases = x.plain.cases ++ cs } }

adds_cases : (rs : List Report) (x : PlainTenancy) → with_reports rs x ≡ after_cases x (cases_of rs x.id)
adds_cases [] x = λ i. record x { plain = record x.plain { cases = sym (append-nil x.plain.cases) i } }
adds_cases (r ∷ rs) x = by (cases_eq r.tenant x.id) (adds_cases rs (with_report r x))
  where
    by : (r.tenant ≡ x.id) ⊎ (r.tenant ≡ x.id → ⊥) → with_reports rs (with_report r x) ≡ after_cases (with_report r x) (cases_of rs (with_report r x).id) → with_reports rs (with_report r x) ≡ after_cases x (cases_of (r ∷ rs) x.id)
    by (inl is) more =
        let here : cases_of (r ∷ rs) x.id ≡ case_of r ∷ cases_of rs x.id = rw (eq-eqb r.tenant x.id is) refl in
        more
        ∙ (ap (λ (y : PlainTenancy). after_cases y (cases_of rs y.id)) (own_report r x is)
        ∙ ((λ i. record x { plain = record x.plain { cases = append_assoc x.plain.cases (case_of r ∷ []) (cases_of rs x.id) i } })
        ∙ ap (after_cases x) (sym here)))
    by (inr ne) more =
        let here : cases_of (r ∷ rs) x.id ≡ cases_of rs x.id = rw (ne_eqb r.tenant x.id ne) refl in
        more ∙ (ap (λ (y : PlainTenancy). after_cases y (cases_of rs y.id)) (other_report r x ne) ∙ ap (after_cases x) (sym here))

-- the tenants of what is held, of the tenants without reports
pub held_reports : (h : Held) (ts : List ℕ) → map (with_reports h.reports) (map (held_place (bare h.lists h.numberings)) ts) ≡ map (held_place h) ts
held_reports h [] = refl
held_reports h (t ∷ ts) = λ i. adds_cases h.reports (held_place (bare h.lists h.numberings) t) i ∷ held_reports h ts i

-- a legal report's trail is legal as a tenant reckons days
pub legal_at : (lists : Lists) (r : Report) (rs : List Report) → list_all (is_legal_report lists) (r ∷ rs) ≡ true → (own : Reckoning) × (is_legal own r.trail ≡ true)
legal_at lists r rs all = (days lists r.tenant, (and_parts (is_legal_report lists r) (list_all (is_legal_report lists) rs) all).0)

pub legal_left : (lists : Lists) (r : Report) (rs : List Report) → list_all (is_legal_report lists) (r ∷ rs) ≡ true → list_all (is_legal_report lists) rs ≡ true
legal_left lists r rs all = (and_parts (is_legal_report lists r) (list_all (is_legal_report lists) rs) all).1

-- before the first one, all are to come
pub none_come_yet : (h : Held) → ((t : ℕ) → ascends_from 0 (map (λ (c : Case). c.number) (cases_of h.reports t)) ≡ true) → ((t : ℕ) → Apart has_receipt (cases_of h.reports t)) → (ts : List ℕ) → AllByRecursion (AreToCome h.reports) (map (held_place (bare h.lists h.numberings)) ts)
none_come_yet h keys receipts [] = tt
none_come_yet h keys receipts (t ∷ ts) = (record { numbers = keys t; receipts = receipts t }, none_come_yet h keys receipts ts)

pub held_ids : (h : Held) (ts : List ℕ) → ids (map (held_place h) ts) ≡ ts
held_ids h [] = refl
held_ids h (t ∷ ts) = ap (λ l. t ∷ l) (held_ids h ts)

-- so it begins with a submission
pub legal_submitted : (o : Reckoning) (trail : List Entry) → is_legal o trail ≡ true → is_submitted trail ≡ true
legal_submitted o [] legal = absurd (grind (arith, legal))
legal_submitted o (e ∷ es) legal =
    let begins : is_first o e ≡ true = (and_parts (is_first o e) (legal_from o e.at (e ∷ []) es) legal).0 in
    let right = (and_parts (is_some (submission_in e.deed) && right_actor e.deed e.by) (right_values o [] e.at e.deed) begins).0 in
    let submits = (and_parts (is_some (submission_in e.deed)) (right_actor e.deed e.by) right).0 in
    ap (λ b. b || is_submitted es) submits

-- what follows where it is well
pub on_ok : {T E A B : Type 0} (r : Result T E) → (A → B) → OnOk r A → OnOk r B
on_ok (Ok x) f h = f h
on_ok (Err e) f h = tt

pub none_of : {X : Type 0} (xs : List X) → length xs ≡ 0 → xs ≡ []
none_of [] none = refl
none_of (x ∷ xs) none = absurd (omega (arith, none))
