-- The tables of each tenant keep the rules that an opening asks for.
use Rattle.std.proofs.Common.{◌≡◌, ℕ, ◌+◌, ◌<◌, Bool, true, false, not, List, [], ◌∷◌, find, Option, Some, None, Ok, refl, sym, ap, ◌∙◌, subst, arith}
use Rattle.std.proofs.lemmas.Bool.{and_parts, eqb-true, false≢true}
use Rattle.std.proofs.lemmas.Bool.Decides.{nat_tests}
use Rattle.std.specs.List.{list_all}
use Rattle.std.specs.Option.{option_map, option_map_or}
use Rattle.std.specs.Prelude.{◌==◌, ◌&&◌, ◌||◌, if◌then◌else◌, is_some, nat_le}
use Rattle.wb_base.specs.AnswerList.{Answered}
use Rattle.wb_custody.specs.declared.sealed.SealedItem.{SealedItem}
use Rattle.wb_custody.specs.SealedAnswers.{answers_of, is_of, pair_cmp}
use Rattle.wb_row_codec.specs.declared.item.EntryItem.{EntryItem}
use Rattle.wb_row_codec.specs.declared.item.NumberingItem.{NumberingItem}
use Rattle.wb_list.specs.Keyed.{IsAscending}
use Rattle.wb_model.specs.declared.entry.Entry.{Entry}
use Rattle.wb_model.specs.declared.numbering.Numbering.{Numbering}
use Rattle.wb_model.specs.declared.registry.FormItem.{FormItem}
use Rattle.wb_model.specs.KeptRules.{AreKept, are_valid_after, has_public_answers, is_named}
use Rattle.wb_model.specs.Legal.{is_legal, last_at}
use Rattle.wb_model.specs.Opened.{begun, entries_of, is_numbering}
use Rattle.wb_model.specs.Openings.{registry_of}
use Rattle.wb_model.specs.AskingForms.{form_of_trail}
use Rattle.wb_model.specs.SetUps.{AreSetUp, are_apart}
use Rattle.wb_model.specs.Tables.{report}
use Rattle.wb_model.specs.Trails.{has_identity, is_marked, submission_in}
use Rattle.wb_model.proofs.Found.{Held as In, find_held, find_true}
use Rattle.wb_rows.specs.declared.items.ItemsByKind.{ItemsByKind}
use Rattle.wb_rows.specs.Reports.{Report}
use Rattle.wb_rows.specs.HeldItems.{report_items, trail_items}
use Rattle.wb_rows.specs.Judged.{held as tables_read}
use Rattle.wb_rows.specs.Openings.{case_of, cases_of, numbering_of, tables_of, time_of}
use Rattle.wb_rows.specs.Places.{report_place}
use Rattle.wb_rows.specs.ReportRules.{are_late_answers, has_its_seal, has_right_answers, is_by_draw, is_drawn, is_late_after, is_numbering_of, is_report, is_right_entry, is_right_numbering, is_right_seal, same_receipt}
use Rattle.wb_rows.specs.TrailRule.{is_legal_report, days, reports_of}
use Rattle.wb_rows.proofs.HeldReports.{begins-so, cases-all, firsts-all, found-own, held-true, items-held, numbers-ascend, report-found, report_with, trail-all}
use Rattle.wb_rows.proofs.KeptMoments.{draws-past, last-past}
use Rattle.wb_rows.proofs.KeptReceipts.{receipts-apart}
use Rattle.wb_rows.proofs.LegalReports.{reports-legal}
use Rattle.wb_rows.proofs.RowsBack.{is_there}
use Rattle.wb_rows.proofs.RulesHold.{RulesHold, drawn_entry}
use Rattle.wb_rows.proofs.TrailRows.{entries-back}
use Rattle.wb_rows.proofs.WholeTrails.{AreSilent, late-first, public-first}

-- ---- one entry

right_named : (k : ItemsByKind) (x : EntryItem) → is_right_entry k.lists x ≡ true → is_named (registry_of k.lists x.tenant) x.entry ≡ true
unfolding is_right_entry
right_named k x right = (and_parts (is_named (registry_of k.lists x.tenant) x.entry) (has_right_answers (registry_of k.lists x.tenant).forms x.entry) right).0

where_so : (b c : Bool) → b ≡ true → (if b then c else true) ≡ true → c ≡ true
where_so true c e holds = holds
where_so false c e holds = absurd (false≢true e)

where_not : (b c : Bool) → (if b then c else false) ≡ true → c ≡ true
where_not true c holds = holds
where_not false c holds = absurd (false≢true holds)

right_answers : (k : ItemsByKind) (x : EntryItem) → is_right_entry k.lists x ≡ true → is_some (submission_in x.entry.deed) ≡ true → has_public_answers (registry_of k.lists x.tenant).forms (x.entry ∷ []) ≡ true
unfolding is_right_entry has_right_answers
right_answers k x right first =
    where_so (is_some (submission_in x.entry.deed)) (has_public_answers (registry_of k.lists x.tenant).forms (x.entry ∷ [])) first
    (and_parts (is_named (registry_of k.lists x.tenant) x.entry) (has_right_answers (registry_of k.lists x.tenant).forms x.entry) right).1

-- ---- numberings

abbrev numbering_in : Option NumberingItem → Numbering
numbering_in o = option_map_or (λ (x : NumberingItem). x.numbering) o (record { at = 0; drawn = 0; last = 0 })

drawn_last : (n : ℕ) (o : Option NumberingItem) → option_map_or (λ (x : NumberingItem). nat_le n x.numbering.last) o false ≡ true → nat_le n (numbering_in o).last ≡ true
drawn_last n None e = absurd (false≢true e)
drawn_last n (Some x) e = e

by_draw : (x : NumberingItem) (y : EntryItem) → is_by_draw x y ≡ true → y.tenant ≡ x.tenant → is_some (submission_in y.entry.deed) ≡ true → nat_le y.entry.at x.numbering.at ≡ true
unfolding is_by_draw
by_draw x y right here first = by (y.tenant == x.tenant) (is_some (submission_in y.entry.deed)) (grind (arith, nat_tests, here)) first right
  where
    by : (a b : Bool) → a ≡ true → b ≡ true → (not (a && b) || nat_le y.entry.at x.numbering.at) ≡ true → nat_le y.entry.at x.numbering.at ≡ true
    by true true p q e = e
    by true false p q e = absurd (false≢true q)
    by false b p q e = absurd (false≢true p)

-- ---- identity answers

same_answer : (a b : Bool) → (a ≡ true → b ≡ true) → (b ≡ true → a ≡ true) → a ≡ b
same_answer true true f g = refl
same_answer true false f g = sym (f refl)
same_answer false true f g = g refl
same_answer false false f g = refl

marked : (sealed : List SealedItem) (t n place : ℕ) (es : List Entry) → list_all (has_its_seal sealed) (trail_items t n place es) ≡ true → has_identity es ≡ true → is_some (answers_of sealed t n) ≡ true
unfolding has_its_seal
marked sealed t n place [] all mark = absurd (false≢true mark)
marked sealed t n place (e ∷ es) all mark =
    let own : EntryItem = record { tenant = t; number = n; place = place; entry = e } in
    let parts = and_parts (has_its_seal sealed own) (list_all (has_its_seal sealed) (trail_items t n (place + 1) es)) all in
    by (is_marked e.deed) parts.0 mark (marked sealed t n (place + 1) es parts.1)
  where
    by : (b : Bool) → (if b then is_some (answers_of sealed t n) else true) ≡ true → (b || has_identity es) ≡ true → (has_identity es ≡ true → is_some (answers_of sealed t n) ≡ true) → is_some (answers_of sealed t n) ≡ true
    by true own m rest = own
    by false own m rest = rest m

late_valid : (forms : List FormItem) (given : Answered) (e : Entry) (es : List Entry) → AreSilent es → are_late_answers forms given (e ∷ es) ≡ true → are_valid_after forms (e ∷ es) (Some given) ≡ true
unfolding is_late_after
late_valid forms given e es silent late = late-first e es silent forms (Some given) ∙ where_not (is_some (submission_in e.deed)) (are_valid_after forms (e ∷ []) (Some given)) late

-- ---- the tables of a tenant

module _ (k : ItemsByKind) (rs : List Report) (read : reports_of k.lists k.entries ≡ Ok rs) (rules : RulesHold k rs) (order : IsAscending pair_cmp report_place rs) (numbered : list_all (λ (x : EntryItem). nat_le 1 x.number) k.entries ≡ true) (t : ℕ) where
  abbrev offered : List FormItem
  offered = (registry_of k.lists t).forms

  legal : list_all (is_legal_report k.lists) rs ≡ true
  legal = reports-legal k.lists k.entries rs read

  -- what is so of all entries
  in_trails : (test : EntryItem → Bool) → list_all test k.entries ≡ true → (r : Report) → In r rs → list_all test (report_items r) ≡ true
  in_trails test all r held = items-held test rs (subst (λ l. list_all test l ≡ true) (entries-back k.lists k.entries rs read) all) r held

  in_first : (test : EntryItem → Bool) → list_all test k.entries ≡ true → (u n : ℕ) (e : Entry) (es : List Entry) → In (report_with u n (e ∷ es)) rs → test (record { tenant = u; number = n; place = 1; entry = e }) ≡ true
  in_first test all u n e es held = (and_parts (test (record { tenant = u; number = n; place = 1; entry = e })) (list_all test (trail_items u n 2 es)) (in_trails test all (report_with u n (e ∷ es)) held)).0

  begins : (n : ℕ) (e : Entry) (es : List Entry) → In (report_with t n (e ∷ es)) rs → (is_some (submission_in e.deed) ≡ true) × AreSilent es
  begins n e es held = begins-so k.lists t n e es rs legal held

  one_public : (n : ℕ) (e : Entry) (es : List Entry) → In (report_with t n (e ∷ es)) rs → has_public_answers offered (e ∷ es) ≡ true
  one_public n e es held =
      let first = begins n e es held in
      public-first e es first.1 offered ∙ right_answers k (record { tenant = t; number = n; place = 1; entry = e }) (in_first (is_right_entry k.lists) rules.entries t n e es held) first.0

  -- ---- numbers

  from_one : (r : Report) → In r rs → 0 < r.number
  from_one r held =
      let all = firsts-all k.lists rs legal (λ u n. nat_le 1 n) (subst (λ l. list_all (λ (x : EntryItem). nat_le 1 x.number) l ≡ true) (entries-back k.lists k.entries rs read) numbered) in
      let least = held-true (λ (x : Report). nat_le 1 x.number) rs all r held in
      grind (arith, nat_tests, least)

  one_drawn : (n : ℕ) (e : Entry) (es : List Entry) → In (report_with t n (e ∷ es)) rs → is_drawn k.numberings t n ≡ true
  one_drawn n e es held = in_first (drawn_entry k) rules.drawn t n e es held

  one_number : (n : ℕ) (e : Entry) (es : List Entry) → In (report_with t n (e ∷ es)) rs → nat_le n (numbering_of k.numberings t).last ≡ true
  unfolding is_drawn
  one_number n e es held = drawn_last n (find (is_numbering_of t) k.numberings) (one_drawn n e es held)

  right_numbering : (x : NumberingItem) → find (is_numbering_of t) k.numberings ≡ Some x → (is_numbering x.numbering ≡ true) × (list_all (is_by_draw x) k.entries ≡ true)
  unfolding is_right_numbering
  right_numbering x found = and_parts (is_numbering x.numbering) (list_all (is_by_draw x) k.entries) (held-true (is_right_numbering k.entries) k.numberings rules.numberings x (find_held (is_numbering_of t) k.numberings x found))

  numbering_right : (o : Option NumberingItem) → find (is_numbering_of t) k.numberings ≡ o → is_numbering (numbering_in o) ≡ true
  numbering_right None found = refl
  numbering_right (Some x) found = (right_numbering x found).0

  one_begun : (n : ℕ) (e : Entry) (es : List Entry) → In (report_with t n (e ∷ es)) rs → (o : Option NumberingItem) → find (is_numbering_of t) k.numberings ≡ o → nat_le e.at (numbering_in o).at ≡ true
  unfolding is_drawn
  one_begun n e es held None found = absurd (false≢true (ap (λ p. option_map_or (λ (x : NumberingItem). nat_le n x.numbering.last) p false) (sym found) ∙ one_drawn n e es held))
  one_begun n e es held (Some x) found =
      let here = eqb-true x.tenant t (find_true (is_numbering_of t) k.numberings x found) in
      by_draw x (record { tenant = t; number = n; place = 1; entry = e }) (in_first (is_by_draw x) (right_numbering x found).1 t n e es held) (sym here) (begins n e es held).0

  draw_past : (o : Option NumberingItem) → find (is_numbering_of t) k.numberings ≡ o → nat_le (numbering_in o).at (time_of (tables_read k rs)) ≡ true
  draw_past None found = grind (arith, nat_tests)
  draw_past (Some x) found = held-true (λ (y : NumberingItem). nat_le y.numbering.at (time_of (tables_read k rs))) k.numberings (draws-past (tables_read k rs)) x (find_held (is_numbering_of t) k.numberings x found)

  -- ---- identity answers

  -- those of a report are right
  abbrev are_right : Answered → Report → Bool
  are_right given r = has_identity r.trail && are_late_answers offered given r.trail

  right_seal : (n : ℕ) (s : SealedItem) → find (is_of t n) k.sealed ≡ Some s → option_map_or (are_right s.answers) (find (is_report t n) rs) false ≡ true
  unfolding is_right_seal
  right_seal n s found =
      let own = and_parts (s.tenant == t) (s.number == n) (find_true (is_of t n) k.sealed s found) in
      let right = held-true (is_right_seal k.lists rs) k.sealed rules.seals s (find_held (is_of t n) k.sealed s found) in
      (λ i. option_map_or (λ (r : Report). has_identity r.trail && are_late_answers (registry_of k.lists (sym (eqb-true s.tenant t own.0) i)).forms s.answers r.trail) (find (is_report (sym (eqb-true s.tenant t own.0) i) (sym (eqb-true s.number n own.1) i)) rs) false) ∙ right

  has_mark : (given : Answered) (o : Option Report) → option_map_or (are_right given) o false ≡ true → has_identity (entries_of (option_map case_of o)) ≡ true
  has_mark given None right = absurd (false≢true right)
  has_mark given (Some r) right = (and_parts (has_identity r.trail) (are_late_answers offered given r.trail) right).0

  seal_marks : (n : ℕ) (o : Option SealedItem) → find (is_of t n) k.sealed ≡ o → is_some (option_map (λ (x : SealedItem). x.answers) o) ≡ true → has_identity (entries_of (option_map case_of (find (is_report t n) rs))) ≡ true
  seal_marks n None found there = absurd (false≢true there)
  seal_marks n (Some s) found there = has_mark s.answers (find (is_report t n) rs) (right_seal n s found)

  mark_seals : (n : ℕ) (o : Option Report) → find (is_report t n) rs ≡ o → has_identity (entries_of (option_map case_of o)) ≡ true → is_some (answers_of k.sealed t n) ≡ true
  mark_seals n None found mark = absurd (false≢true mark)
  mark_seals n (Some r) found mark =
      let own = and_parts (r.tenant == t) (r.number == n) (find_true (is_report t n) rs r found) in
      (λ i. is_some (answers_of k.sealed (sym (eqb-true r.tenant t own.0) i) (sym (eqb-true r.number n own.1) i)))
      ∙ marked k.sealed r.tenant r.number 1 r.trail (in_trails (has_its_seal k.sealed) rules.sealed r (find_held (is_report t n) rs r found)) mark

  marks : (n : ℕ) → is_some (answers_of k.sealed t n) ≡ has_identity (entries_of (report n (cases_of rs t)))
  marks n =
      same_answer (is_some (answers_of k.sealed t n)) (has_identity (entries_of (option_map case_of (find (is_report t n) rs)))) (seal_marks n (find (is_of t n) k.sealed) refl) (mark_seals n (find (is_report t n) rs) refl)
      ∙ ap (λ o. has_identity (entries_of o)) (sym (report-found t n rs))

  one_valid : (n : ℕ) (e : Entry) (es : List Entry) → In (report_with t n (e ∷ es)) rs → (o : Option SealedItem) → find (is_of t n) k.sealed ≡ o → are_valid_after offered (e ∷ es) (option_map (λ (x : SealedItem). x.answers) o) ≡ true
  one_valid n e es held None found = refl
  one_valid n e es held (Some s) found =
      let right = ap (λ o. option_map_or (are_right s.answers) o false) (sym (found-own rs order (report_with t n (e ∷ es)) held)) ∙ right_seal n s found in
      late_valid offered s.answers e es (begins n e es held).1 (and_parts (has_identity (e ∷ es)) (are_late_answers offered s.answers (e ∷ es)) right).1

  -- ---- the whole

  pub are-kept : AreSetUp k.lists → AreKept (time_of (tables_read k rs)) k.lists t (tables_of (tables_read k rs) t)
  are-kept up = record {
    set_up = up;
    registry = refl;
    keys = numbers-ascend t 0 rs order (λ r held here. from_one r held);
    legal = cases-all k.lists t rs legal (λ c. is_legal (days k.lists t) c.trail) (λ n e es held. held-true (is_legal_report k.lists) rs legal (report_with t n (e ∷ es)) held);
    forms = cases-all k.lists t rs legal (λ c. is_some (form_of_trail c.trail offered)) (λ n e es held. is_there _ (form_of_trail (e ∷ es) offered) (one_public n e es held));
    named = cases-all k.lists t rs legal (λ c. list_all (is_named (registry_of k.lists t)) c.trail)
        (λ n e es held. trail-all (is_right_entry k.lists) (is_named (registry_of k.lists t)) t n (λ place x right. right_named k (record { tenant = t; number = n; place = place; entry = x }) right) 1 (e ∷ es) (in_trails (is_right_entry k.lists) rules.entries (report_with t n (e ∷ es)) held));
    answers = cases-all k.lists t rs legal (λ c. has_public_answers offered c.trail) one_public;
    numbers = cases-all k.lists t rs legal (λ c. nat_le c.number (numbering_of k.numberings t).last) one_number;
    marks = marks;
    sealed = cases-all k.lists t rs legal (λ c. are_valid_after offered c.trail (answers_of k.sealed t c.number)) (λ n e es held. one_valid n e es held (find (is_of t n) k.sealed) refl);
    receipts = receipts-apart k.lists t rs legal (subst (λ l. are_apart same_receipt l ≡ true) (entries-back k.lists k.entries rs read) rules.receipts);
    numbering = numbering_right (find (is_numbering_of t) k.numberings) refl;
    begun = cases-all k.lists t rs legal (λ c. nat_le (begun c.trail) (numbering_of k.numberings t).at) (λ n e es held. one_begun n e es held (find (is_numbering_of t) k.numberings) refl);
    drawn = draw_past (find (is_numbering_of t) k.numberings) refl;
    entries = cases-all k.lists t rs legal (λ c. nat_le (last_at 0 c.trail) (time_of (tables_read k rs))) (λ n e es held. last-past (tables_read k rs) (report_with t n (e ∷ es)) held);
    sessions = refl;
  }
