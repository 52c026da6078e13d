-- A report that is changed in its place in the table.
use Rattle.std.proofs.Common.{◌≡◌, ◌≢◌, Bor, ℕ, ℤ, ◌<◌, ◌≤◌, ◌++◌, Bool, true, false, cond, not, suc, length, List, [], ◌∷◌, map, find, Option, Some, None, refl, sym, ap, ◌∙◌, subst, arith}
use Rattle.std.specs.Prelude.{◌==◌, ◌||◌, ◌&&◌, filter, is_some, IfSome, IfOk, Result, Ok, Err, if◌then◌else◌}
use Rattle.std.specs.List.{AllByRecursion, list_any, list_all}
use Rattle.std.specs.List.Sorted.{IsStrictlySortedBy}
use Rattle.std.specs.Option.{option_map, option_copied}
use Rattle.std.specs.Ordering.{int_eq, nat_cmp, is_eq, match_ordering}
use Rattle.std.specs.Cmp.{nat_cmp_is, unsigned_ties}
use Rattle.std.specs.declared.cmp.Ordering.{Ordering}
use Rattle.std.specs.declared.cmp.Ordering.TheVariants.{Less, Equal, Greater}
use Rattle.std.proofs.lemmas.Bool.Decides.{nat_tests}
use Rattle.std.proofs.lemmas.Cmp.{ranked, nat_cmp_total}
use Rattle.std.proofs.lemmas.Map.Views.{exact_unsigned_eq}
use Rattle.wb_list.specs.Keyed.{IsAscending, has_key, insert_item}
use Rattle.wb_list.proofs.KeyedLookups.{find-inserted}
use Rattle.wb_base.specs.declared.kind.Kind.TheVariants.{Expiry}
use Rattle.wb_custody.specs.Desks.{Desk, HasRoom}
use Rattle.wb_custody.specs.Plans as custody
use Rattle.wb_model.specs.declared.access.AccessRequest.{AccessRequest}
use Rattle.wb_model.specs.declared.act.Act.{Act}
use Rattle.wb_model.specs.declared.act.Act.TheVariants as acts
use Rattle.wb_model.specs.declared.act.CaseFault.{CaseFault}
use Rattle.wb_model.specs.declared.act.CustodyFault.{CustodyFault}
use Rattle.wb_model.specs.declared.act.Move.{Move}
use Rattle.wb_model.specs.declared.entry.Actor.{Actor}
use Rattle.wb_model.specs.Acts.{act_deed}
use Rattle.wb_model.specs.Legal.{right_actor}
use Rattle.wb_model.specs.declared.entry.Entry.{Entry}
use Rattle.wb_model.specs.Access.{requests}
use Rattle.wb_model.specs.Host.{noted}
use Rattle.wb_model.specs.Opened.{Apart}
use Rattle.wb_model.specs.Tables.{Case, has_number, is_there, report}
use Rattle.wb_model.specs.Trails.{expires, has_identity, submission_in}
use Rattle.wb_model.proofs.Found.{find_true}
use Rattle.wb_model.proofs.Leaving.{apart_map}
use Rattle.wb_terms.specs.Index.{same_term}
use Rattle.wb_terms.specs.declared.term_index.Term.{Term}
use Rattle.wb_tables.specs.Indexed.{IsIndexed, AreCustodied, AreFewRequests, expiry_of, is_begun, moved}
use Rattle.wb_tables.specs.Lives.{case_of}
use Rattle.wb_base.specs.Calendars.{Calendar}
use Rattle.wb_tables.specs.Lives.{AreEarly, HasEarlyDays}
use Rattle.wb_tables.specs.Noted.{IsActed, IsMoved, IsNoted, IsReadyNote}
use Rattle.wb_tables.specs.declared.noting.NotedEntry.{NotedEntry}
use Rattle.wb_tables.specs.declared.tenancy.Report.{Report as KeptCase}
use Rattle.wb_tables.proofs.CaseLists.{number_of, report-found}
use Rattle.wb_tables.proofs.Indexes.{any_filter, any_found, some_none, term_is, term_self}
use Rattle.wb_tables.proofs.ReceiptTables.{act_later, move_later}

-- ---- which one is found

pub number_found : (n : ℕ) (cs : List KeptCase) (x : KeptCase) → find (has_key nat_cmp number_of n) cs ≡ Some x → x.number ≡ n
number_found n cs x e = exact_unsigned_eq x.number n (unsigned_ties x.number n ∙ find_true (has_key nat_cmp number_of n) cs x e)

pub found_there : (n : ℕ) (cs : List KeptCase) → is_there n (map case_of cs) ≡ true → (x : KeptCase) × (find (has_key nat_cmp number_of n) cs ≡ Some x)
found_there n [] e = absurd (grind (arith, e))
found_there n (c ∷ cs) e = by (found_there n cs) (c.number == n) refl
  where
    by : (is_there n (map case_of cs) ≡ true → (x : KeptCase) × (find (has_key nat_cmp number_of n) cs ≡ Some x)) → (b : Bool) → (c.number == n) ≡ b → (x : KeptCase) × (find (has_key nat_cmp number_of n) (c ∷ cs) ≡ Some x)
    by more true is = (c, ap (λ b. cond b (Some c) (find (has_key nat_cmp number_of n) cs)) (sym (unsigned_ties c.number n) ∙ is))
    by more false is =
        let later = more (ap (λ b. b || is_there n (map case_of cs)) (sym is) ∙ e) in
        (later.0, ap (λ b. cond b (Some c) (find (has_key nat_cmp number_of n) cs)) (sym (unsigned_ties c.number n) ∙ is) ∙ later.1)

-- what is kept under a number is the report of that number
pub report_is : (n : ℕ) (cs : List KeptCase) (x : KeptCase) → find (has_key nat_cmp number_of n) cs ≡ Some x → report n (map case_of cs) ≡ Some (case_of x)
report_is n cs x e = report-found n cs ∙ ap (option_map case_of) e

pub trail_is : (n : ℕ) (cs : List KeptCase) (x : KeptCase) (trail : List Entry) → find (has_key nat_cmp number_of n) cs ≡ Some x → report n (map case_of cs) ≡ Some (record { number = n; trail = trail }) → x.case.items ≡ trail
trail_is n cs x trail e is =
    let same : case_of x ≡ record { number = n; trail = trail } = cc (report_is n cs x e, is) in
    ap (λ (c : Case). c.trail) same

-- ---- the list after it

other_number : (k n : ℕ) → k ≢ n → (k == n) ≡ false
other_number k n ne = grind (arith, nat_tests, ne)

pub none_above : (m n : ℕ) (cs : List KeptCase) → AllByRecursion (λ k. nat_cmp m k ≡ Less) (map number_of cs) → n < m → find (has_key nat_cmp number_of n) cs ≡ None
none_above m n [] all lt = refl
none_above m n (c ∷ cs) all lt =
    let less : m < c.number = ranked m c.number Less (sym all.0) in
    let other : is_eq (nat_cmp c.number n) ≡ false = sym (unsigned_ties c.number n) ∙ other_number c.number n (λ same. absurd (omega (arith, same, less, lt))) in
    rw other (none_above m n cs all.1 lt)

same_above : (m n : ℕ) (cs : List KeptCase) (f : Case → Case) → AllByRecursion (λ k. nat_cmp m k ≡ Less) (map number_of cs) → m ≡ n → ((c : Case) → (c.number == n) ≡ false → f c ≡ c) → map case_of cs ≡ map f (map case_of cs)
same_above m n [] f all is others = refl
same_above m n (c ∷ cs) f all is others =
    let less : m < c.number = ranked m c.number Less (sym all.0) in
    ap (λ d. d ∷ map case_of cs) (sym (others (case_of c) (other_number c.number n (λ same. absurd (omega (arith, same, less, is))))))
    ∙ ap (λ ds. f (case_of c) ∷ ds) (same_above m n cs f all.1 is others)

changed_here : (cs : List KeptCase) (x y : KeptCase) (f : Case → Case) → IsAscending nat_cmp number_of cs → find (has_key nat_cmp number_of y.number) cs ≡ Some x → case_of y ≡ f (case_of x) → ((c : Case) → (c.number == y.number) ≡ false → f c ≡ c)
    → map case_of (insert_item nat_cmp number_of cs y) ≡ map f (map case_of cs)
unfolding IsStrictlySortedBy
changed_here [] x y f ascending found made others = absurd (grind (arith, found))
changed_here (c ∷ cs) x y f ascending found made others = by (λ e. changed_here cs x y f ascending.1 e made others) (nat_cmp c.number y.number) refl found
  where
    by : (find (has_key nat_cmp number_of y.number) cs ≡ Some x → map case_of (insert_item nat_cmp number_of cs y) ≡ map f (map case_of cs)) → (r : Ordering) → nat_cmp c.number y.number ≡ r → cond (is_eq r) (Some c) (find (has_key nat_cmp number_of y.number) cs) ≡ Some x
        → map case_of (match_ordering r (c ∷ insert_item nat_cmp number_of cs y) (y ∷ cs) (y ∷ c ∷ cs)) ≡ f (case_of c) ∷ map f (map case_of cs)
    by more Less is e =
        let less : c.number < y.number = ranked c.number y.number Less (sym is) in
        ap (λ d. d ∷ map case_of (insert_item nat_cmp number_of cs y)) (sym (others (case_of c) (other_number c.number y.number (λ same. absurd (omega (arith, same, less))))))
        ∙ ap (λ ds. f (case_of c) ∷ ds) (more e)
    by more Equal is e =
        let same : c ≡ x = cc e in
        ap (λ d. d ∷ map case_of cs) (made ∙ ap (λ (z : KeptCase). f (case_of z)) (sym same))
        ∙ ap (λ ds. f (case_of c) ∷ ds) (same_above c.number y.number cs f ascending.0 (ranked c.number y.number Equal (sym is)) others)
    by more Greater is e =
        let less : y.number < c.number = ranked c.number y.number Greater (sym is) in
        absurd (cc (e, none_above c.number y.number cs ascending.0 less))

-- a change of the report of a number, which is none of any other
pub changed_cases : (n : ℕ) (cs : List KeptCase) (x y : KeptCase) (f : Case → Case) → IsAscending nat_cmp number_of cs → find (has_key nat_cmp number_of n) cs ≡ Some x → y.number ≡ x.number → case_of y ≡ f (case_of x) → ((c : Case) → (c.number == n) ≡ false → f c ≡ c)
    → map case_of (insert_item nat_cmp number_of cs y) ≡ map f (map case_of cs)
changed_cases n cs x y f ascending found number made others =
    let is : n ≡ y.number = sym (number ∙ number_found n cs x found) in
    changed_here cs x y f ascending (subst (λ k. find (has_key nat_cmp number_of k) cs ≡ Some x) is found) made (λ c ne. others c (ap (λ k. c.number == k) is ∙ ne))

map_same : {X : Type 0} (xs : List X) → map (λ x. x) xs ≡ xs
map_same [] = refl
map_same (x ∷ xs) = ap (λ ys. x ∷ ys) (map_same xs)

-- where its trail stays
pub kept_cases : (n : ℕ) (cs : List KeptCase) (x y : KeptCase) → IsAscending nat_cmp number_of cs → find (has_key nat_cmp number_of n) cs ≡ Some x → y.number ≡ x.number → y.case.items ≡ x.case.items → map case_of (insert_item nat_cmp number_of cs y) ≡ map case_of cs
kept_cases n cs x y ascending found number items = changed_cases n cs x y (λ c. c) ascending found number (λ i. record { number = number i; trail = items i }) (λ d ne. refl) ∙ map_same (map case_of cs)

noted_here : (n : ℕ) (e : Entry) (x y : KeptCase) → x.number ≡ n → y.number ≡ x.number → y.case.items ≡ x.case.items ++ e ∷ [] → case_of y ≡ noted n e (case_of x)
noted_here n e x y is number items =
    let here : (x.number == n) ≡ true = grind (arith, nat_tests, is) in
    let trail : y.case.items ≡ cond (x.number == n) (x.case.items ++ e ∷ []) x.case.items = items ∙ sym (ap (λ b. cond b (x.case.items ++ e ∷ []) x.case.items) here) in
    λ i. record { number = number i; trail = trail i }

noted_other : (n : ℕ) (e : Entry) (c : Case) → (c.number == n) ≡ false → noted n e c ≡ c
noted_other n e c ne = let trail : cond (c.number == n) (c.trail ++ e ∷ []) c.trail ≡ c.trail = ap (λ b. cond b (c.trail ++ e ∷ []) c.trail) ne in λ i. record { number = c.number; trail = trail i }

-- where it has one more entry
pub noted_cases : (n : ℕ) (e : Entry) (cs : List KeptCase) (x y : KeptCase) → IsAscending nat_cmp number_of cs → find (has_key nat_cmp number_of n) cs ≡ Some x → y.number ≡ x.number → y.case.items ≡ x.case.items ++ e ∷ []
    → map case_of (insert_item nat_cmp number_of cs y) ≡ map (noted n e) (map case_of cs)
noted_cases n e cs x y ascending found number items = changed_cases n cs x y (noted n e) ascending found number (noted_here n e x y (number_found n cs x found) number items) (noted_other n e)

-- what is found afterwards
pub changed_found : (n : ℕ) (cs : List KeptCase) (x y : KeptCase) → find (has_key nat_cmp number_of n) cs ≡ Some x → y.number ≡ x.number → find (has_key nat_cmp number_of n) (insert_item nat_cmp number_of cs y) ≡ Some y
changed_found n cs x y found number =
    let is : y.number ≡ n = number ∙ number_found n cs x found in
    find-inserted nat_cmp_total number_of cs y n (sym (nat_cmp_is y.number n Equal is))

-- ---- the requests that are kept of it

pub custodied_found : (p : KeptCase → Bool) (cs : List KeptCase) (x : KeptCase) → AreCustodied cs → find p cs ≡ Some x → x.desk.items ≡ requests x.case.items
custodied_found p [] x all e = absurd (grind (arith, e))
custodied_found p (c ∷ cs) x all e = by (λ f. custodied_found p cs x all.1 f) (p c) e
  where
    by : (find p cs ≡ Some x → x.desk.items ≡ requests x.case.items) → (b : Bool) → cond b (Some c) (find p cs) ≡ Some x → x.desk.items ≡ requests x.case.items
    by later true f = let same : c ≡ x = cc f in subst (λ (r : KeptCase). r.desk.items ≡ requests r.case.items) same all.0
    by later false f = later f

pub custodied_changed : (cs : List KeptCase) (y : KeptCase) → AreCustodied cs → y.desk.items ≡ requests y.case.items → AreCustodied (insert_item nat_cmp number_of cs y)
custodied_changed [] y all here = (here, tt)
custodied_changed (c ∷ cs) y all here = by (nat_cmp c.number y.number) (custodied_changed cs y all.1 here)
  where
    by : (r : Ordering) → AreCustodied (insert_item nat_cmp number_of cs y) → AreCustodied (match_ordering r (c ∷ insert_item nat_cmp number_of cs y) (y ∷ cs) (y ∷ c ∷ cs))
    by Less more = (all.0, more)
    by Equal more = (here, all.1)
    by Greater more = (here, all)

pub custodied_pushed : (cs : List KeptCase) (y : KeptCase) → AreCustodied cs → y.desk.items ≡ requests y.case.items → AreCustodied (cs ++ y ∷ [])
custodied_pushed [] y all here = (here, tt)
custodied_pushed (c ∷ cs) y all here = (all.0, custodied_pushed cs y all.1 here)

pub custodied_some : (p : KeptCase → Bool) (cs : List KeptCase) (o : Option (Bor KeptCase)) → AreCustodied cs → option_copied o ≡ find p cs → IfSome o (λ r. r.now.desk.items ≡ requests r.now.case.items)
custodied_some p cs None all e = tt
custodied_some p cs (Some r) all e = custodied_found p cs r.now all (sym e)

few_found : (n : ℕ) (cs : List KeptCase) (x : KeptCase) → AreFewRequests (map case_of cs) → find (has_key nat_cmp number_of n) cs ≡ Some x → length (requests x.case.items) ≤ 100
few_found n [] x all e = absurd (grind (arith, e))
few_found n (c ∷ cs) x all e = by (λ f. few_found n cs x all.1 f) (has_key nat_cmp number_of n c) e
  where
    by : (find (has_key nat_cmp number_of n) cs ≡ Some x → length (requests x.case.items) ≤ 100) → (b : Bool) → cond b (Some c) (find (has_key nat_cmp number_of n) cs) ≡ Some x → length (requests x.case.items) ≤ 100
    by later true f = let same : c ≡ x = cc f in subst (λ (r : KeptCase). length (requests r.case.items) ≤ 100) same all.0
    by later false f = later f

pub few_kept : (n : ℕ) (cs : List KeptCase) (x : KeptCase) → AreCustodied cs → AreFewRequests (map case_of cs) → find (has_key nat_cmp number_of n) cs ≡ Some x → length x.desk.items ≤ 100
few_kept n cs x all few e = subst (λ (rs : List AccessRequest). length rs ≤ 100) (sym (custodied_found (has_key nat_cmp number_of n) cs x all e)) (few_found n cs x few e)

pub early_found : (n : ℕ) (cs : List KeptCase) (x : KeptCase) → AreEarly (map case_of cs) → find (has_key nat_cmp number_of n) cs ≡ Some x → HasEarlyDays x.case.items
early_found n [] x all e = absurd (grind (arith, e))
early_found n (c ∷ cs) x all e = by (λ f. early_found n cs x all.1 f) (has_key nat_cmp number_of n c) e
  where
    by : (find (has_key nat_cmp number_of n) cs ≡ Some x → HasEarlyDays x.case.items) → (b : Bool) → cond b (Some c) (find (has_key nat_cmp number_of n) cs) ≡ Some x → HasEarlyDays x.case.items
    by later true f = let same : c ≡ x = cc f in subst (λ (r : KeptCase). HasEarlyDays r.case.items) same all.0
    by later false f = later f

-- ---- the index of expiry days

term_number : (t : Term) (tenant : ℕ) (c : Case) → same_term t (expiry_of tenant c) ≡ true → t.number ≡ c.number
term_number t tenant c e = grind (arith, nat_tests, e)

-- a term of this number is no other report's
other_term : (tenant n : ℕ) (t : Term) (c : Case) → t.number ≡ n → (c.number == n) ≡ false → same_term t (expiry_of tenant c) ≡ false
other_term tenant n t c is ne = by (same_term t (expiry_of tenant c)) refl
  where
    by : (b : Bool) → same_term t (expiry_of tenant c) ≡ b → b ≡ false
    by true e = let same = term_number t tenant c e in absurd (grind (arith, nat_tests, same, is, ne))
    by false e = refl

none_terms : (tenant n : ℕ) (t : Term) (cs : List Case) → t.number ≡ n → report n cs ≡ None → list_any (λ c. same_term t (expiry_of tenant c)) cs ≡ false
none_terms tenant n t [] is none = refl
none_terms tenant n t (c ∷ cs) is none = by (λ f. none_terms tenant n t cs is f) (c.number == n) refl none
  where
    by : (report n cs ≡ None → list_any (λ c. same_term t (expiry_of tenant c)) cs ≡ false) → (b : Bool) → (c.number == n) ≡ b → cond b (Some c) (report n cs) ≡ None → (same_term t (expiry_of tenant c) || list_any (λ c. same_term t (expiry_of tenant c)) cs) ≡ false
    by later true e f = absurd (grind (arith, f))
    by later false e f = ap (λ b. b || list_any (λ c. same_term t (expiry_of tenant c)) cs) (other_term tenant n t c is e) ∙ later f

none_noted : (n : ℕ) (e : Entry) (cs : List Case) → report n cs ≡ None → map (noted n e) cs ≡ cs
none_noted n e [] none = refl
none_noted n e (c ∷ cs) none = by (λ g. none_noted n e cs g) (c.number == n) refl none
  where
    by : (report n cs ≡ None → map (noted n e) cs ≡ cs) → (b : Bool) → (c.number == n) ≡ b → cond b (Some c) (report n cs) ≡ None → noted n e c ∷ map (noted n e) cs ≡ c ∷ cs
    by later true f g = absurd (grind (arith, g))
    by later false f g = ap (λ d. d ∷ map (noted n e) cs) (noted_other n e c f) ∙ ap (λ ds. c ∷ ds) (later g)

-- the terms of the reports after an entry
noted_terms : (tenant n : ℕ) (e : Entry) (t : Term) (c0 : Case) (cs : List Case) → Apart has_number cs → report n cs ≡ Some c0
    → list_any (λ c. same_term t (expiry_of tenant c)) (map (noted n e) cs) ≡ moved (expiry_of tenant c0) (expiry_of tenant (noted n e c0)) t (list_any (λ c. same_term t (expiry_of tenant c)) cs)
noted_terms tenant n e t c0 [] apart found = absurd (grind (arith, found))
noted_terms tenant n e t c0 (c ∷ cs) apart found = by (λ f. noted_terms tenant n e t c0 cs apart.1 f) (c.number == n) refl found
  where
    A : Bool
    A = list_any (λ c. same_term t (expiry_of tenant c)) cs

    B : Bool
    B = list_any (λ c. same_term t (expiry_of tenant c)) (map (noted n e) cs)

    here : (after before : Bool) → (before ≡ true → A ≡ false) → (after || A) ≡ (if after then true else if before then false else (before || A))
    here true before none = refl
    here false true none = none refl
    here false false none = refl

    later : (after before x : Bool) → (after ≡ true → x ≡ false) → (before ≡ true → x ≡ false) → B ≡ (if after then true else if before then false else A) → (x || B) ≡ (if after then true else if before then false else (x || A))
    later true before x na nb ih = ap (λ b. x || b) ih ∙ any_true x
      where
        any_true : (x : Bool) → (x || true) ≡ true
        any_true true = refl
        any_true false = refl
    later false true x na nb ih = ap (λ b. b || B) (nb refl) ∙ ih
    later false false x na nb ih = ap (λ b. x || b) ih

    by : (report n cs ≡ Some c0 → B ≡ moved (expiry_of tenant c0) (expiry_of tenant (noted n e c0)) t A) → (b : Bool) → (c.number == n) ≡ b → cond b (Some c) (report n cs) ≡ Some c0
        → (same_term t (expiry_of tenant (noted n e c)) || B) ≡ moved (expiry_of tenant c0) (expiry_of tenant (noted n e c0)) t (same_term t (expiry_of tenant c) || A)
    by rest true is f =
        let same : c ≡ c0 = cc f in
        let none : report n cs ≡ None = apart.0 n is in
        let kept : B ≡ A = ap (list_any (λ c. same_term t (expiry_of tenant c))) (none_noted n e cs none) in
        let number : c.number ≡ n = grind (arith, nat_tests, is) in
        subst (λ (d : Case). (same_term t (expiry_of tenant (noted n e c)) || B) ≡ moved (expiry_of tenant d) (expiry_of tenant (noted n e d)) t (same_term t (expiry_of tenant c) || A)) same
        (ap (λ b. same_term t (expiry_of tenant (noted n e c)) || b) kept
        ∙ here (same_term t (expiry_of tenant (noted n e c))) (same_term t (expiry_of tenant c)) (λ eq. none_terms tenant n t cs (term_number t tenant c eq ∙ number) none))
    by rest false is f =
        let number : c0.number ≡ n = (let r = find_true (has_number n) cs c0 f in grind (arith, nat_tests, r)) in
        ap (λ d. same_term t (expiry_of tenant d) || B) (noted_other n e c is)
        ∙ later (same_term t (expiry_of tenant (noted n e c0))) (same_term t (expiry_of tenant c0)) (same_term t (expiry_of tenant c))
        (λ eq. other_term tenant n t c (term_number t tenant (noted n e c0) eq ∙ number) is)
        (λ eq. other_term tenant n t c (term_number t tenant c0 eq ∙ number) is)
        (rest f)

begun_noted : (n : ℕ) (e : Entry) (cs : List Case) → list_all is_begun cs ≡ true → list_all is_begun (map (noted n e) cs) ≡ true
begun_noted n e [] all = refl
begun_noted n e (c ∷ cs) all = by (begun_noted n e cs (grind (arith, all))) (c.number == n) refl
  where
    more : (xs : List Entry) → not (length (xs ++ e ∷ []) == 0) ≡ true
    more [] = refl
    more (x ∷ xs) = let some : (suc (length (xs ++ e ∷ [])) == 0) ≡ false = grind (arith, nat_tests) in ap not some

    by : list_all is_begun (map (noted n e) cs) ≡ true → (b : Bool) → (c.number == n) ≡ b → (not (length (cond b (c.trail ++ e ∷ []) c.trail) == 0) && list_all is_begun (map (noted n e) cs)) ≡ true
    by rest true f = rw (more c.trail) rest
    by rest false f = grind (arith, all, rest)

-- the index after an entry on a report
indexed_noted : (tenant n : ℕ) (e : Entry) (c0 : Case) (cs : List Case) (terms new : List Term) → IsIndexed tenant cs terms → report n cs ≡ Some c0
    → ((t : Term) → list_any (same_term t) new ≡ moved (expiry_of tenant c0) (expiry_of tenant (noted n e c0)) t (list_any (same_term t) terms)) → IsIndexed tenant (map (noted n e) cs) new
indexed_noted tenant n e c0 cs terms new h found made = record {
  apart = apart_map has_number (noted n e) cs (λ k c. refl) h.apart;
  begun = begun_noted n e cs h.begun;
  terms = λ t. made t ∙ (ap (moved (expiry_of tenant c0) (expiry_of tenant (noted n e c0)) t) (h.terms t) ∙ sym (noted_terms tenant n e t c0 cs h.apart found));
}

-- what the index has of a report, and no more of its number
its_term : (tenant n : ℕ) (c0 : Case) (cs : List Case) (terms : List Term) → IsIndexed tenant cs terms → report n cs ≡ Some c0 → list_any (same_term (expiry_of tenant c0)) terms ≡ true
its_term tenant n c0 cs terms h found = h.terms (expiry_of tenant c0) ∙ by cs found
  where
    by : (cs : List Case) → report n cs ≡ Some c0 → list_any (λ c. same_term (expiry_of tenant c0) (expiry_of tenant c)) cs ≡ true
    by [] f = absurd (grind (arith, f))
    by (c ∷ cs) f = at (c.number == n) f (λ g. by cs g)
      where
        at : (b : Bool) → cond b (Some c) (report n cs) ≡ Some c0 → (report n cs ≡ Some c0 → list_any (λ c. same_term (expiry_of tenant c0) (expiry_of tenant c)) cs ≡ true) → (same_term (expiry_of tenant c0) (expiry_of tenant c) || list_any (λ c. same_term (expiry_of tenant c0) (expiry_of tenant c)) cs) ≡ true
        at true g ih = let same : c ≡ c0 = cc g in ap (λ (d : Case). same_term (expiry_of tenant c0) (expiry_of tenant d) || list_any (λ c. same_term (expiry_of tenant c0) (expiry_of tenant c)) cs) same ∙ ap (λ b. b || list_any (λ c. same_term (expiry_of tenant c0) (expiry_of tenant c)) cs) (term_self (expiry_of tenant c0))
        at false g ih = or_true (same_term (expiry_of tenant c0) (expiry_of tenant c)) (ih g)
          where
            or_true : (a : Bool) {b : Bool} → b ≡ true → (a || b) ≡ true
            or_true true e = refl
            or_true false e = e

other_day : (tenant n : ℕ) (c0 : Case) (cs : List Case) (terms : List Term) (t : Term) → IsIndexed tenant cs terms → report n cs ≡ Some c0 → t.number ≡ n → same_term t (expiry_of tenant c0) ≡ false → list_any (same_term t) terms ≡ false
other_day tenant n c0 cs terms t h found number ne = h.terms t ∙ by cs h.apart found
  where
    by : (cs : List Case) → Apart has_number cs → report n cs ≡ Some c0 → list_any (λ c. same_term t (expiry_of tenant c)) cs ≡ false
    by [] apart f = refl
    by (c ∷ cs) apart f = at (λ g. by cs apart.1 g) (c.number == n) refl f
      where
        at : (report n cs ≡ Some c0 → list_any (λ c. same_term t (expiry_of tenant c)) cs ≡ false) → (b : Bool) → (c.number == n) ≡ b → cond b (Some c) (report n cs) ≡ Some c0 → (same_term t (expiry_of tenant c) || list_any (λ c. same_term t (expiry_of tenant c)) cs) ≡ false
        at later true is g = let same : c ≡ c0 = cc g in ap (λ (d : Case). same_term t (expiry_of tenant d) || list_any (λ c. same_term t (expiry_of tenant c)) cs) same ∙ (ap (λ b. b || list_any (λ c. same_term t (expiry_of tenant c)) cs) ne ∙ none_terms tenant n t cs number (apart.0 n is))
        at later false is g = ap (λ b. b || list_any (λ c. same_term t (expiry_of tenant c)) cs) (other_term tenant n t c number is) ∙ later g

-- ---- a term that moves

none_left : (p q : Term → Bool) (ts : List Term) → list_any p ts ≡ false → list_any p (filter q ts) ≡ false
none_left p q [] e = refl
none_left p q (t ∷ ts) e = by (λ f. none_left p q ts f) (p t) (q t) refl e
  where
    by : (list_any p ts ≡ false → list_any p (filter q ts) ≡ false) → (a b : Bool) → p t ≡ a → (a || list_any p ts) ≡ false → list_any p (cond b (t ∷ filter q ts) (filter q ts)) ≡ false
    by later true b f g = absurd (grind (arith, g))
    by later false true f g = rw f (later g)
    by later false false f g = later g

-- there is none of another day
pub free_left : (before after : Term) (old left : List Term) → left ≡ filter (λ x. not (same_term before x)) old → list_any (same_term after) old ≡ false → find (same_term after) left ≡ None
free_left before after old left is none =
    some_none (find (same_term after) left) (sym (any_found (same_term after) left) ∙ (ap (list_any (same_term after)) is ∙ none_left (same_term after) (λ x. not (same_term before x)) old none))

any_same : (p q : Term → Bool) (ts : List Term) → ((t : Term) → p t ≡ q t) → list_any p ts ≡ list_any q ts
any_same p q [] same = refl
any_same p q (t ∷ ts) same = ap (λ b. b || list_any p ts) (same t) ∙ ap (λ b. q t || b) (any_same p q ts same)

no_any : (ts : List Term) → list_any (λ t. false) ts ≡ false
no_any [] = refl
no_any (t ∷ ts) = no_any ts

dropped_term : (before t x : Term) → (same_term t x && not (same_term before x)) ≡ (if same_term t before then false else same_term t x)
dropped_term before t x = by (same_term t x) refl (same_term t before) refl
  where
    by : (a : Bool) → same_term t x ≡ a → (b : Bool) → same_term t before ≡ b → (a && not (same_term before x)) ≡ (if b then false else a)
    by true e true f =
        let here : before ≡ x = term_is t before f ∙ sym (term_is t x e) in
        ap not (ap (λ z. same_term z x) here ∙ term_self x)
    by true e false f = off (same_term before x) refl
      where
        off : (s : Bool) → same_term before x ≡ s → not s ≡ true
        off true g =
            let here : before ≡ t = sym (term_is before x g) ∙ term_is t x e in
            let bad : same_term t before ≡ true = ap (same_term t) here ∙ term_self t in
            absurd (grind (arith, f, bad))
        off false g = refl
    by false e true f = refl
    by false e false f = refl

any_dropped : (before t : Term) (ts : List Term) → list_any (same_term t) (filter (λ x. not (same_term before x)) ts) ≡ (if same_term t before then false else list_any (same_term t) ts)
any_dropped before t ts =
    any_filter (same_term t) (λ x. not (same_term before x)) ts
    ∙ (any_same (λ x. same_term t x && not (same_term before x)) (λ x. if same_term t before then false else same_term t x) ts (dropped_term before t) ∙ by (same_term t before))
  where
    by : (b : Bool) → list_any (λ x. if b then false else same_term t x) ts ≡ (if b then false else list_any (same_term t) ts)
    by true = no_any ts
    by false = refl

pub moved_terms : (before after : Term) (old left new : List Term) → left ≡ filter (λ x. not (same_term before x)) old → ((t : Term) → find (same_term t) new ≡ cond (same_term t after) (Some after) (find (same_term t) left))
    → (t : Term) → list_any (same_term t) new ≡ moved before after t (list_any (same_term t) old)
moved_terms before after old left new is made t =
    any_found (same_term t) new ∙ (ap is_some (made t) ∙ by (same_term t after))
  where
    by : (b : Bool) → is_some (cond b (Some after) (find (same_term t) left)) ≡ (if b then true else if same_term t before then false else list_any (same_term t) old)
    by true = refl
    by false = sym (any_found (same_term t) left) ∙ (ap (list_any (same_term t)) is ∙ any_dropped before t old)

pub unmoved_terms : (before after : Term) (terms : List Term) → before ≡ after → list_any (same_term before) terms ≡ true → (t : Term) → list_any (same_term t) terms ≡ moved before after t (list_any (same_term t) terms)
unmoved_terms before after terms is there t = by (same_term t after) refl
  where
    by : (b : Bool) → same_term t after ≡ b → list_any (same_term t) terms ≡ (if b then true else if same_term t before then false else list_any (same_term t) terms)
    by true e = ap (λ z. list_any (same_term z) terms) (sym (is ∙ term_is t after e)) ∙ there
    by false e = sym (ap (λ b. if b then false else list_any (same_term t) terms) (ap (same_term t) is ∙ e))

-- ---- an entry on a report

abbrev pub term_at : ℕ → ℕ → ℤ → Term
term_at tenant n day = record { tenant = tenant; day = day; number = n; kind = Expiry }

term_of : (tenant n : ℕ) (day : ℤ) (c : Case) → day ≡ expires c.trail → c.number ≡ n → term_at tenant n day ≡ expiry_of tenant c
term_of tenant n day c is number = λ i. record { tenant = tenant; day = is i; number = sym number i; kind = Expiry }

day_apart : (a b d : Bool) → b ≡ false → (a && (b && d)) ≡ false
day_apart true b d e = ap (λ x. x && d) e
day_apart false b d e = refl

-- its term is there, and there is none of another day
pub before_there : (tenant n : ℕ) (cs : List KeptCase) (terms : List Term) (x : KeptCase) (before : ℤ) → IsIndexed tenant (map case_of cs) terms → find (has_key nat_cmp number_of n) cs ≡ Some x → before ≡ expires x.case.items → list_any (same_term (term_at tenant n before)) terms ≡ true
before_there tenant n cs terms x before h found is =
    ap (λ t. list_any (same_term t) terms) (term_of tenant n before (case_of x) is (number_found n cs x found)) ∙ its_term tenant n (case_of x) (map case_of cs) terms h (report_is n cs x found)

pub after_free : (tenant n : ℕ) (cs : List KeptCase) (terms : List Term) (x : KeptCase) (before after : ℤ) → IsIndexed tenant (map case_of cs) terms → find (has_key nat_cmp number_of n) cs ≡ Some x → before ≡ expires x.case.items → int_eq before after ≡ false
    → list_any (same_term (term_at tenant n after)) terms ≡ false
after_free tenant n cs terms x before after h found is ne =
    other_day tenant n (case_of x) (map case_of cs) terms (term_at tenant n after) h (report_is n cs x found) refl
    (day_apart (tenant == tenant) (int_eq (expires x.case.items) after) ((x.number == n) && true) (ap (λ d. int_eq d after) (sym is) ∙ ne))

pub noted_index : (tenant n : ℕ) (e : Entry) (cs : List KeptCase) (terms new : List Term) (x y : KeptCase) (answer : NotedEntry) → IsIndexed tenant (map case_of cs) terms → IsAscending nat_cmp number_of cs → find (has_key nat_cmp number_of n) cs ≡ Some x → y.number ≡ x.number → IsNoted e x y answer
    → ((t : Term) → list_any (same_term t) new ≡ moved (term_at tenant n answer.before) (term_at tenant n answer.after) t (list_any (same_term t) terms)) → IsIndexed tenant (map case_of (insert_item nat_cmp number_of cs y)) new
noted_index tenant n e cs terms new x y answer h ascending found number noting made =
    let here : case_of y ≡ noted n e (case_of x) = noted_here n e x y (number_found n cs x found) number noting.items in
    let first : term_at tenant n answer.before ≡ expiry_of tenant (case_of x) = term_of tenant n answer.before (case_of x) noting.before_is (number_found n cs x found) in
    let next : term_at tenant n answer.after ≡ expiry_of tenant (noted n e (case_of x)) = term_of tenant n answer.after (case_of y) noting.after_is (number ∙ number_found n cs x found) ∙ ap (expiry_of tenant) here in
    subst (λ ds. IsIndexed tenant ds new) (sym (noted_cases n e cs x y ascending found number noting.items))
    (indexed_noted tenant n e (case_of x) (map case_of cs) terms new h (report_is n cs x found)
    (λ t. made t ∙ (ap (λ b. moved b (term_at tenant n answer.after) t (list_any (same_term t) terms)) first ∙ ap (λ a. moved (expiry_of tenant (case_of x)) a t (list_any (same_term t) terms)) next)))

pub noted_custodied : (n : ℕ) (e : Entry) (cs : List KeptCase) (x y : KeptCase) (answer : NotedEntry) → AreCustodied cs → find (has_key nat_cmp number_of n) cs ≡ Some x → IsNoted e x y answer → AreCustodied (insert_item nat_cmp number_of cs y)
noted_custodied n e cs x y answer all found noting =
    custodied_changed cs y all (noting.requests x.case.items (custodied_found (has_key nat_cmp number_of n) cs x all found) ∙ sym (ap requests noting.items))

-- ---- an act and a move that are planned

-- no act asks for an identity, so none needs room for a request
act_room : (calendar : Calendar) (desk : Desk) (trail : List Entry) (act : Act) → HasRoom desk (act_deed calendar trail act)
act_room calendar desk trail (acts.Label text) = tt
act_room calendar desk trail _ = tt

pub acted_ready : (calendar : Calendar) (n at : ℕ) (by : Actor) (act : Act) (cs : List KeptCase) (x y : KeptCase) (answer : Result Entry CaseFault) → find (has_key nat_cmp number_of n) cs ≡ Some x → y.number ≡ x.number → IsActed calendar at by act x y answer
    → IfOk answer (λ e. right_actor e.deed e.by ≡ true → IsReadyNote n e (insert_item nat_cmp number_of cs y))
acted_ready calendar n at by act cs x y (Err fault) found number acted = tt
acted_ready calendar n at by act cs x y (Ok e) found number acted = λ actor.
    let deed = ap (λ (z : Entry). z.deed) acted.plan.1 in
    record {
      report = y;
      found = changed_found n cs x y found number;
      roomy = record { room = acted.room; few = acted.few; desk = subst (HasRoom y.desk) (sym deed) (act_room calendar y.desk x.case.items act); actor = actor };
      later = ap submission_in deed ∙ act_later calendar x.case.items act;
    }

pub acted_custodied : (calendar : Calendar) (n at : ℕ) (by : Actor) (act : Act) (cs : List KeptCase) (x y : KeptCase) (answer : Result Entry CaseFault) → AreCustodied cs → find (has_key nat_cmp number_of n) cs ≡ Some x → IsActed calendar at by act x y answer → AreCustodied (insert_item nat_cmp number_of cs y)
acted_custodied calendar n at by act cs x y answer all found acted =
    custodied_changed cs y all (ap (λ (d : Desk). d.items) acted.desk ∙ (custodied_found (has_key nat_cmp number_of n) cs x all found ∙ sym (ap requests acted.items)))

pub moved_ready : (n at : ℕ) (by : Actor) (move : Move) (cs : List KeptCase) (x y : KeptCase) (answer : Result Entry CustodyFault) → find (has_key nat_cmp number_of n) cs ≡ Some x → y.number ≡ x.number → IsMoved at by move x y answer
    → IfOk answer (λ e. IsReadyNote n e (insert_item nat_cmp number_of cs y))
moved_ready n at by move cs x y (Err fault) found number made = tt
moved_ready n at by move cs x y (Ok e) found number made = record {
  report = y;
  found = changed_found n cs x y found number;
  roomy = made.roomy;
  later = ap (λ (z : Entry). submission_in z.deed) made.plan.1 ∙ move_later at move;
}

pub moved_custodied : (n at : ℕ) (by : Actor) (move : Move) (cs : List KeptCase) (x y : KeptCase) (answer : Result Entry CustodyFault) → AreCustodied cs → find (has_key nat_cmp number_of n) cs ≡ Some x → IsMoved at by move x y answer → AreCustodied (insert_item nat_cmp number_of cs y)
moved_custodied n at by move cs x y answer all found made =
    custodied_changed cs y all (made.requests ∙ (custodied_found (has_key nat_cmp number_of n) cs x all found ∙ sym (ap requests made.items)))

pub moved_plan : (n at : ℕ) (by : Actor) (move : Move) (cs : List KeptCase) (x y : KeptCase) (answer : Result Entry CustodyFault) (trail : List Entry) → AreCustodied cs → find (has_key nat_cmp number_of n) cs ≡ Some x → IsMoved at by move x y answer → report n (map case_of cs) ≡ Some (record { number = n; trail = trail })
    → custody.GivesPlan (length trail) (has_identity trail) (requests trail) at by move answer
moved_plan n at by move cs x y answer trail all found made is =
    subst (λ (es : List Entry). custody.GivesPlan (length es) (has_identity es) (requests es) at by move answer) (trail_is n cs x trail found is)
    (subst (λ (rs : List AccessRequest). custody.GivesPlan (length x.case.items) (has_identity x.case.items) rs at by move answer) (custodied_found (has_key nat_cmp number_of n) cs x all found) made.plan)
