-- Good tables break none of the rules of reports and numberings.
use Rattle.std.proofs.Common.{◌≡◌, inl, inr, ℕ, ◌+◌, Bool, true, false, cond, not, List, [], ◌∷◌, map, find, filter, Option, Some, None, refl, sym, ap, ◌∙◌, arith}
use Rattle.std.proofs.lemmas.Bool.{and_from, and_parts, eq-eqb, eqb-true, ne_eqb, false≢true}
use Rattle.std.proofs.lemmas.List.Folds.{list_all-append}
use Rattle.std.specs.List.{list_all, list_any}
use Rattle.std.specs.Option.{is_some, option_map, option_map_or}
use Rattle.std.specs.Prelude.{◌==◌, ◌&&◌, ◌||◌, if◌then◌else◌, nat_le}
use Rattle.wb_base.specs.AnswerList.{Answered}
use Rattle.wb_custody.specs.declared.sealed.SealedItem.{SealedItem}
use Rattle.wb_custody.specs.SealedAnswers.{answers_of}
use Rattle.wb_row_codec.specs.declared.item.EntryItem.{EntryItem}
use Rattle.wb_row_codec.specs.declared.item.NumberingItem.{NumberingItem}
use Rattle.wb_model.specs.declared.entry.Entry.{Entry}
use Rattle.wb_model.specs.declared.numbering.Numbering.{Numbering}
use Rattle.wb_model.specs.declared.registry.FormItem.{FormItem}
use Rattle.wb_model.specs.declared.registry.Lists.{Lists}
use Rattle.wb_model.specs.declared.registry.TenantItem.{TenantItem}
use Rattle.wb_model.specs.KeptRules.{are_valid_after, has_public_answers, is_named}
use Rattle.wb_model.specs.Legal.{ascends, is_legal}
use Rattle.wb_model.specs.Opened.{begun, entries_of, is_numbering}
use Rattle.wb_model.specs.Openings.{registry_of}
use Rattle.wb_model.specs.SetUps.{has_tenant}
use Rattle.wb_model.specs.Tables.{Case}
use Rattle.wb_model.specs.Trails.{has_identity, is_marked, submission_in}
use Rattle.wb_model.proofs.Found.{Held as In}
use Rattle.wb_rows.specs.Good.{AreGood}
use Rattle.wb_rows.specs.Reports.{Report}
use Rattle.wb_rows.specs.Held.{Held}
use Rattle.wb_rows.specs.HeldItems.{entry_items, report_items, sealed_item, sealed_items, trail_items}
use Rattle.wb_rows.specs.Openings.{case_of, cases_of, numbering_of}
use Rattle.wb_rows.specs.ReportRules.{are_late_answers, has_its_seal, has_right_answers, is_by_draw, is_drawn, is_late_after, is_numbering_of, is_report, is_right_entry, is_right_numbering, is_right_seal}
use Rattle.wb_rows.specs.TrailRule.{is_legal_report, days}
use Rattle.wb_rows.proofs.Ascending.{in-above, in-map, rest-ascends}
use Rattle.wb_rows.proofs.HeldReports.{all-true, found-own, held-true, report-found}
use Rattle.wb_rows.proofs.ItemsBack.{kept_by}
use Rattle.wb_rows.proofs.ReceiptsBack.{submissions-apart}
use Rattle.wb_rows.proofs.RowsByTenant.{any_found}
use Rattle.wb_rows.proofs.RulesHold.{RulesHold}
use Rattle.wb_rows.proofs.SealsBack.{answers-held}
use Rattle.wb_rows.proofs.WholeTrails.{AreSilent, begins_so, late-first, public-first}

-- ---- lists

held_passing : {X : Type 0} (test : X → Bool) (xs : List X) (x : X) → In x xs → test x ≡ true → In x (filter test xs)
held_passing test [] x held is = absurd held
held_passing {X} test (y ∷ ys) x held is = by (test y) refl held (λ more. held_passing test ys x more is)
  where
    by : (b : Bool) → test y ≡ b → In x (y ∷ ys) → (In x ys → In x (filter test ys)) → In x (cond b (y ∷ filter test ys) (filter test ys))
    by true own (inl same) rest = inl same
    by true own (inr more) rest = inr (rest more)
    by false own (inl same) rest = absurd (false≢true (sym own ∙ (ap test (sym same) ∙ is)))
    by false own (inr more) rest = rest more

-- what is so of the entries of each report is so of all entries
pub entries_all : (test : EntryItem → Bool) (rs : List Report) → ((r : Report) → In r rs → list_all test (report_items r) ≡ true) → list_all test (entry_items rs) ≡ true
entries_all test [] so = refl
entries_all test (r ∷ rs) so =
    list_all-append test (report_items r) (entry_items rs)
    ∙ and_from (list_all test (report_items r)) (list_all test (entry_items rs)) (so r (inl refl)) (entries_all test rs (λ s held. so s (inr held)))

-- and of the tenant and number of each report
pub entries_of_all : (test : ℕ → ℕ → Bool) (t n place : ℕ) (es : List Entry) → test t n ≡ true → list_all (λ (x : EntryItem). test x.tenant x.number) (trail_items t n place es) ≡ true
entries_of_all test t n place [] is = refl
entries_of_all test t n place (e ∷ es) is = rw is (entries_of_all test t n (place + 1) es is)

pub seals_all : (test : SealedItem → Bool) (sealed : ℕ → ℕ → Option Answered) (rs : List Report) → ((r : Report) → In r rs → list_all test (sealed_item r.tenant r.number (sealed r.tenant r.number)) ≡ true) → list_all test (sealed_items sealed rs) ≡ true
seals_all test sealed [] so = refl
seals_all test sealed (r ∷ rs) so =
    list_all-append test (sealed_item r.tenant r.number (sealed r.tenant r.number)) (sealed_items sealed rs)
    ∙ and_from (list_all test (sealed_item r.tenant r.number (sealed r.tenant r.number))) (list_all test (sealed_items sealed rs)) (so r (inl refl)) (seals_all test sealed rs (λ s held. so s (inr held)))

pub seal_all : (test : ℕ → ℕ → Bool) (t n : ℕ) (o : Option Answered) → test t n ≡ true → list_all (λ (x : SealedItem). test x.tenant x.number) (sealed_item t n o) ≡ true
seal_all test t n None is = refl
seal_all test t n (Some answers) is = rw is refl

pub any_map : {X : Type 0} (f : X → ℕ) (t : ℕ) (xs : List X) → list_any (λ x. f x == t) xs ≡ list_any (λ n. n == t) (map f xs)
any_map f t [] = refl
any_map f t (x ∷ xs) = ap (λ b. (f x == t) || b) (any_map f t xs)

-- ---- entries of a trail

trail_right : (lists : Lists) (t n place : ℕ) (es : List Entry) → AreSilent es → list_all (is_named (registry_of lists t)) es ≡ true → list_all (is_right_entry lists) (trail_items t n place es) ≡ true
unfolding is_right_entry has_right_answers
trail_right lists t n place [] silent named = refl
trail_right lists t n place (e ∷ es) silent named =
    let parts = and_parts (is_named (registry_of lists t) e) (list_all (is_named (registry_of lists t)) es) named in
    let answers : (if is_some (submission_in e.deed) then has_public_answers (registry_of lists t).forms (e ∷ []) else true) ≡ true = ap (λ o. if is_some o then has_public_answers (registry_of lists t).forms (e ∷ []) else true) silent.0 in
    and_from (is_named (registry_of lists t) e && (if is_some (submission_in e.deed) then has_public_answers (registry_of lists t).forms (e ∷ []) else true)) (list_all (is_right_entry lists) (trail_items t n (place + 1) es))
    (and_from (is_named (registry_of lists t) e) (if is_some (submission_in e.deed) then has_public_answers (registry_of lists t).forms (e ∷ []) else true) parts.0 answers) (trail_right lists t n (place + 1) es silent.1 parts.1)

first_right : (lists : Lists) (t n place : ℕ) (e : Entry) → is_named (registry_of lists t) e ≡ true → has_public_answers (registry_of lists t).forms (e ∷ []) ≡ true → is_right_entry lists (record { tenant = t; number = n; place = place; entry = e }) ≡ true
unfolding is_right_entry has_right_answers
first_right lists t n place e named public = and_from (is_named (registry_of lists t) e) (if is_some (submission_in e.deed) then has_public_answers (registry_of lists t).forms (e ∷ []) else true) named (by (is_some (submission_in e.deed)))
  where
    by : (b : Bool) → (if b then has_public_answers (registry_of lists t).forms (e ∷ []) else true) ≡ true
    by true = public
    by false = refl

trail_sealed : (seals : List SealedItem) (t n place : ℕ) (es : List Entry) → (has_identity es ≡ true → is_some (answers_of seals t n) ≡ true) → list_all (has_its_seal seals) (trail_items t n place es) ≡ true
unfolding has_its_seal
trail_sealed seals t n place [] there = refl
trail_sealed seals t n place (e ∷ es) there = by (is_marked e.deed) there (trail_sealed seals t n (place + 1) es)
  where
    by : (b : Bool) → ((b || has_identity es) ≡ true → is_some (answers_of seals t n) ≡ true) → ((has_identity es ≡ true → is_some (answers_of seals t n) ≡ true) → list_all (has_its_seal seals) (trail_items t n (place + 1) es) ≡ true)
        → ((if b then is_some (answers_of seals t n) else true) && list_all (has_its_seal seals) (trail_items t n (place + 1) es)) ≡ true
    by true own rest = and_from (is_some (answers_of seals t n)) (list_all (has_its_seal seals) (trail_items t n (place + 1) es)) (own refl) (rest (λ m. own refl))
    by false own rest = rest own

trail_drawn : (x : NumberingItem) (t n place : ℕ) (es : List Entry) → AreSilent es → list_all (is_by_draw x) (trail_items t n place es) ≡ true
unfolding is_by_draw
trail_drawn x t n place [] silent = refl
trail_drawn x t n place (e ∷ es) silent =
    let none : (not ((t == x.tenant) && is_some (submission_in e.deed)) || nat_le e.at x.numbering.at) ≡ true = ap (λ o. not ((t == x.tenant) && is_some o) || nat_le e.at x.numbering.at) silent.0 ∙ by (t == x.tenant) in
    and_from (not ((t == x.tenant) && is_some (submission_in e.deed)) || nat_le e.at x.numbering.at) (list_all (is_by_draw x) (trail_items t n (place + 1) es)) none (trail_drawn x t n (place + 1) es silent.1)
  where
    by : (b : Bool) → (not (b && false) || nat_le e.at x.numbering.at) ≡ true
    by true = refl
    by false = refl

first_drawn : (x : NumberingItem) (t n : ℕ) (e : Entry) → (t ≡ x.tenant → nat_le e.at x.numbering.at ≡ true) → is_by_draw x (record { tenant = t; number = n; place = 1; entry = e }) ≡ true
unfolding is_by_draw
first_drawn x t n e so = by (t == x.tenant) refl (is_some (submission_in e.deed))
  where
    by : (b : Bool) → (t == x.tenant) ≡ b → (c : Bool) → (not (b && c) || nat_le e.at x.numbering.at) ≡ true
    by true is true = so (eqb-true t x.tenant is)
    by true is false = refl
    by false is c = refl

-- ---- numberings

abbrev number_in : Option NumberingItem → Numbering
number_in o = option_map_or (λ (x : NumberingItem). x.numbering) o (record { at = 0; drawn = 0; last = 0 })

drawn_by : (n : ℕ) (o : Option NumberingItem) → is_some o ≡ true → nat_le n (number_in o).last ≡ true → option_map_or (λ (x : NumberingItem). nat_le n x.numbering.last) o false ≡ true
drawn_by n None there le = absurd (false≢true there)
drawn_by n (Some x) there le = le

numbering_found : (xs : List NumberingItem) (x : NumberingItem) → ascends (map (λ (y : NumberingItem). y.tenant) xs) ≡ true → In x xs → find (is_numbering_of x.tenant) xs ≡ Some x
numbering_found [] x up held = absurd held
numbering_found (y ∷ ys) x up (inl is) = rw (eq-eqb y.tenant x.tenant (ap (λ (z : NumberingItem). z.tenant) (sym is))) (ap (λ z. Some z) (sym is))
numbering_found (y ∷ ys) x up (inr held) =
    let lt = in-above y.tenant x.tenant (map (λ (z : NumberingItem). z.tenant) ys) up (in-map (λ (z : NumberingItem). z.tenant) ys x held) in
    let other : (y.tenant == x.tenant) ≡ false = ne_eqb y.tenant x.tenant (λ e. omega (arith, e, lt)) in
    rw other (numbering_found ys x (rest-ascends y.tenant (map (λ (z : NumberingItem). z.tenant) ys) up) held)

-- ---- the tables of all tenants

module _ (at : ℕ) (h : Held) (good : AreGood at h) where
  abbrev rs : List Report
  rs = h.reports

  abbrev offered : ℕ → List FormItem
  offered t = (registry_of h.lists t).forms

  abbrev report_with : ℕ → ℕ → List Entry → Report
  report_with t n trail = record { tenant = t; number = n; trail = trail }

  -- ---- reports among the cases of their tenant

  own_case : (r : Report) → In r rs → In (case_of r) (cases_of rs r.tenant)
  own_case r held = in-map case_of (filter (λ (x : Report). x.tenant == r.tenant) rs) r (held_passing (λ (x : Report). x.tenant == r.tenant) rs r held (eq-eqb r.tenant r.tenant refl))

  of_case : (test : Case → Bool) (r : Report) → In r rs → list_all test (cases_of rs r.tenant) ≡ true → test (case_of r) ≡ true
  of_case test r held all = held-true test (cases_of rs r.tenant) all (case_of r) (own_case r held)

  pub all-legal : list_all (is_legal_report h.lists) rs ≡ true
  all-legal = all-true (is_legal_report h.lists) rs (λ r held. of_case (λ c. is_legal (days h.lists r.tenant) c.trail) r held (good.kept r.tenant).legal)

  -- what is so of the entries of each trail, which begins with a submission, and has no other
  by_trails : (test : EntryItem → Bool) → ((t n : ℕ) (e : Entry) (es : List Entry) → In (report_with t n (e ∷ es)) rs → AreSilent es → list_all test (trail_items t n 1 (e ∷ es)) ≡ true) → list_all test (entry_items rs) ≡ true
  by_trails test so = entries_all test rs (λ r held. by r.tenant r.number r.trail held)
    where
      by : (t n : ℕ) (trail : List Entry) → In (report_with t n trail) rs → list_all test (trail_items t n 1 trail) ≡ true
      by t n [] held = refl
      by t n (e ∷ es) held = so t n e es held (begins_so (days h.lists t) e es (held-true (is_legal_report h.lists) rs all-legal (report_with t n (e ∷ es)) held)).1

  right_entries : list_all (is_right_entry h.lists) (entry_items rs) ≡ true
  right_entries = by_trails (is_right_entry h.lists) one
    where
      one : (t n : ℕ) (e : Entry) (es : List Entry) → In (report_with t n (e ∷ es)) rs → AreSilent es → list_all (is_right_entry h.lists) (trail_items t n 1 (e ∷ es)) ≡ true
      one t n e es held silent =
          let named = of_case (λ c. list_all (is_named (registry_of h.lists t)) c.trail) (report_with t n (e ∷ es)) held (good.kept t).named in
          let parts = and_parts (is_named (registry_of h.lists t) e) (list_all (is_named (registry_of h.lists t)) es) named in
          let public = of_case (λ c. has_public_answers (offered t) c.trail) (report_with t n (e ∷ es)) held (good.kept t).answers in
          and_from (is_right_entry h.lists (record { tenant = t; number = n; place = 1; entry = e })) (list_all (is_right_entry h.lists) (trail_items t n 2 es))
          (first_right h.lists t n 1 e parts.0 (sym (public-first e es silent (offered t)) ∙ public)) (trail_right h.lists t n 2 es silent parts.1)

  -- ---- numbers

  has_number_of : (t : ℕ) → has_tenant h.lists t ≡ true → is_some (find (is_numbering_of t) h.numberings) ≡ true
  has_number_of t there = any_found (is_numbering_of t) h.numberings (any_map (λ (x : NumberingItem). x.tenant) t h.numberings ∙ (ap (list_any (λ n. n == t)) good.numbered ∙ (sym (any_map (λ (x : TenantItem). x.tenant) t h.lists.tenants) ∙ there)))

  one_drawn : (r : Report) → In r rs → is_drawn h.numberings r.tenant r.number ≡ true
  unfolding is_drawn
  one_drawn r held =
      drawn_by r.number (find (is_numbering_of r.tenant) h.numberings) (has_number_of r.tenant (held-true (λ (x : Report). has_tenant h.lists x.tenant) rs good.owned r held))
      (of_case (λ c. nat_le c.number (numbering_of h.numberings r.tenant).last) r held (good.kept r.tenant).numbers)

  drawn_entries : list_all (λ (x : EntryItem). is_drawn h.numberings x.tenant x.number) (entry_items rs) ≡ true
  drawn_entries = entries_all (λ (x : EntryItem). is_drawn h.numberings x.tenant x.number) rs (λ r held. entries_of_all (is_drawn h.numberings) r.tenant r.number 1 r.trail (one_drawn r held))

  drawn_seals : list_all (λ (x : SealedItem). is_drawn h.numberings x.tenant x.number) (sealed_items h.sealed rs) ≡ true
  drawn_seals = seals_all (λ (x : SealedItem). is_drawn h.numberings x.tenant x.number) h.sealed rs (λ r held. seal_all (is_drawn h.numberings) r.tenant r.number (h.sealed r.tenant r.number) (one_drawn r held))

  -- ---- identity answers

  marks_of : (t n : ℕ) → is_some (h.sealed t n) ≡ has_identity (entries_of (option_map case_of (find (is_report t n) rs)))
  marks_of t n = (good.kept t).marks n ∙ ap (λ o. has_identity (entries_of o)) (report-found t n rs)

  pub no-others : (t n : ℕ) → is_some (find (is_report t n) rs) ≡ false → h.sealed t n ≡ None
  no-others t n absent = none (h.sealed t n) (marks_of t n ∙ by (find (is_report t n) rs) absent)
    where
      by : (o : Option Report) → is_some o ≡ false → has_identity (entries_of (option_map case_of o)) ≡ false
      by None e = refl
      by (Some r) e = absurd (false≢true (sym e))

      none : (o : Option Answered) → is_some o ≡ false → o ≡ None
      none None e = refl
      none (Some x) e = absurd (false≢true (sym e))

  pub all-sealed : (t n : ℕ) → answers_of (sealed_items h.sealed rs) t n ≡ h.sealed t n
  all-sealed t n = answers-held h.sealed rs t n (no-others t n)

  own_marks : (r : Report) → In r rs → is_some (h.sealed r.tenant r.number) ≡ has_identity r.trail
  own_marks r held = marks_of r.tenant r.number ∙ ap (λ (o : Option Report). has_identity (entries_of (option_map case_of o))) (found-own rs good.order r held)

  sealed_entries : list_all (has_its_seal (sealed_items h.sealed rs)) (entry_items rs) ≡ true
  sealed_entries = entries_all (has_its_seal (sealed_items h.sealed rs)) rs
      (λ r held. trail_sealed (sealed_items h.sealed rs) r.tenant r.number 1 r.trail (λ mark. ap (λ (o : Option Answered). is_some o) (all-sealed r.tenant r.number) ∙ (own_marks r held ∙ mark)))

  late_again : (t : ℕ) (given : Answered) (e : Entry) (es : List Entry) → is_some (submission_in e.deed) ≡ true → AreSilent es → are_valid_after (offered t) (e ∷ es) (Some given) ≡ true → are_late_answers (offered t) given (e ∷ es) ≡ true
  unfolding is_late_after
  late_again t given e es first silent valid = (λ i. if first i then are_valid_after (offered t) (e ∷ []) (Some given) else false) ∙ (sym (late-first e es silent (offered t) (Some given)) ∙ valid)

  -- the identity answers of a report are right
  right_seal : (t n : ℕ) (trail : List Entry) → In (report_with t n trail) rs → (o : Option Answered) → h.sealed t n ≡ o → list_all (is_right_seal h.lists rs) (sealed_item t n o) ≡ true
  unfolding is_right_seal
  right_seal t n trail held None is = refl
  right_seal t n [] held (Some given) is = absurd (false≢true (held-true (is_legal_report h.lists) rs all-legal (report_with t n []) held))
  right_seal t n (e ∷ es) held (Some given) is =
      let begins = begins_so (days h.lists t) e es (held-true (is_legal_report h.lists) rs all-legal (report_with t n (e ∷ es)) held) in
      let mark : has_identity (e ∷ es) ≡ true = sym (own_marks (report_with t n (e ∷ es)) held) ∙ ap (λ (o : Option Answered). is_some o) is in
      let valid : are_valid_after (offered t) (e ∷ es) (Some given) ≡ true = ap (are_valid_after (offered t) (e ∷ es)) (sym is) ∙ of_case (λ c. are_valid_after (offered t) c.trail (h.sealed t c.number)) (report_with t n (e ∷ es)) held (good.kept t).sealed in
      let late = late_again t given e es begins.0 begins.1 valid in
      let own : option_map_or (λ (r : Report). has_identity r.trail && are_late_answers (offered t) given r.trail) (find (is_report t n) rs) false ≡ true =
      ap (λ o. option_map_or (λ (r : Report). has_identity r.trail && are_late_answers (offered t) given r.trail) o false) (found-own rs good.order (report_with t n (e ∷ es)) held)
      ∙ and_from (has_identity (e ∷ es)) (are_late_answers (offered t) given (e ∷ es)) mark late in
      and_from (option_map_or (λ (r : Report). has_identity r.trail && are_late_answers (offered t) given r.trail) (find (is_report t n) rs) false) true own refl

  right_seals : list_all (is_right_seal h.lists rs) (sealed_items h.sealed rs) ≡ true
  right_seals = seals_all (is_right_seal h.lists rs) h.sealed rs (λ r held. right_seal r.tenant r.number r.trail held (h.sealed r.tenant r.number) refl)

  -- ---- numberings

  ids_up : ascends (map (λ (x : NumberingItem). x.tenant) h.numberings) ≡ true
  ids_up = ap ascends good.numbered ∙ (good.kept 0).set_up.order

  own_numbering : (x : NumberingItem) → In x h.numberings → numbering_of h.numberings x.tenant ≡ x.numbering
  own_numbering x held = ap number_in (numbering_found h.numberings x ids_up held)

  by_draws : (x : NumberingItem) → In x h.numberings → list_all (is_by_draw x) (entry_items rs) ≡ true
  by_draws x there = by_trails (is_by_draw x) one
    where
      begun_by : (t n : ℕ) (e : Entry) (es : List Entry) → In (report_with t n (e ∷ es)) rs → t ≡ x.tenant → nat_le e.at x.numbering.at ≡ true
      begun_by t n e es held same =
          let numbering : numbering_of h.numberings t ≡ x.numbering = ap (numbering_of h.numberings) same ∙ own_numbering x there in
          ap (λ (m : Numbering). nat_le e.at m.at) (sym numbering) ∙ of_case (λ c. nat_le (begun c.trail) (numbering_of h.numberings t).at) (report_with t n (e ∷ es)) held (good.kept t).begun

      one : (t n : ℕ) (e : Entry) (es : List Entry) → In (report_with t n (e ∷ es)) rs → AreSilent es → list_all (is_by_draw x) (trail_items t n 1 (e ∷ es)) ≡ true
      one t n e es held silent = and_from (is_by_draw x (record { tenant = t; number = n; place = 1; entry = e })) (list_all (is_by_draw x) (trail_items t n 2 es)) (first_drawn x t n e (begun_by t n e es held)) (trail_drawn x t n 2 es silent)

  right_numberings : list_all (is_right_numbering (entry_items rs)) h.numberings ≡ true
  unfolding is_right_numbering
  right_numberings = all-true (λ (x : NumberingItem). is_numbering x.numbering && list_all (is_by_draw x) (entry_items rs)) h.numberings
      (λ x held. and_from (is_numbering x.numbering) (list_all (is_by_draw x) (entry_items rs)) (ap is_numbering (sym (own_numbering x held)) ∙ (good.kept x.tenant).numbering) (by_draws x held))

  -- ---- the whole

  pub rules-kept : RulesHold (kept_by h) rs
  rules-kept = record {
    entries = right_entries;
    drawn = drawn_entries;
    drawn_seals = drawn_seals;
    sealed = sealed_entries;
    seals = right_seals;
    receipts = submissions-apart h.lists rs all-legal (λ t. (good.kept t).receipts);
    numberings = right_numberings;
  }
