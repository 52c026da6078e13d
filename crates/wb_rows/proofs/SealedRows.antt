-- The rows of identity answers in order, each of a report that is there, are those of the reports in their order.
use Rattle.std.proofs.Common.{◌≡◌, ℕ, true, false, cond, List, [], ◌∷◌, ◌++◌, map, find, Option, Some, None, refl, sym, ap, ◌∙◌, subst}
use Rattle.std.proofs.lemmas.Bool.{and_parts, eqb-true, eq-eqb, false≢true}
use Rattle.std.specs.Cmp.{both_tied, unsigned_ties}
use Rattle.std.specs.List.{AllByRecursion}
use Rattle.std.specs.List.Sorted.{IsStrictlySortedBy}
use Rattle.std.specs.Option.{option_map, is_some}
use Rattle.std.specs.Ordering.{is_eq, ordering_reverse}
use Rattle.std.specs.Prelude.{◌==◌, ◌&&◌}
use Rattle.std.specs.declared.cmp.Ordering.{Ordering}
use Rattle.std.specs.declared.cmp.Ordering.TheVariants.{Less, Equal, Greater}
use Rattle.wb_custody.specs.declared.sealed.SealedItem.{SealedItem}
use Rattle.wb_custody.specs.SealedAnswers.{answers_of, is_of, pair_cmp, sealed_place}
use Rattle.wb_custody.proofs.SealedLookups.{pair_total}
use Rattle.wb_list.specs.Keyed.{IsAscending}
use Rattle.wb_model.specs.Json.{answers_data}
use Rattle.wb_model.specs.Rows.{row, sealed_row as answers_row}
use Rattle.wb_rows.specs.Reports.{Report}
use Rattle.wb_rows.specs.HeldRows.{sealed_rows}
use Rattle.wb_rows.specs.Places.{report_place}
use Rattle.wb_rows.specs.ReportRules.{is_report}
use Rattle.wb_rows.proofs.ItemKinds.{sealed_row}

-- each identity answers are of a report that is there
abbrev pub AreThere : List Report → List SealedItem → Type 0
AreThere rs [] = Unit {0}
AreThere rs (s ∷ ss) = (is_some (find (is_report s.tenant s.number) rs) ≡ true) × AreThere rs ss

-- ---- places

is_place : (p q : ℕ × ℕ) → ((p.0 == q.0) && (p.1 == q.1)) ≡ is_eq (pair_cmp p q)
is_place p q = both_tied _ _ _ _ (unsigned_ties p.0 q.0) (unsigned_ties p.1 q.1)

pub other_place : (p q : ℕ × ℕ) → pair_cmp p q ≡ Less → ((p.0 == q.0) && (p.1 == q.1)) ≡ false
other_place p q less = is_place p q ∙ ap is_eq less

other_back : (p q : ℕ × ℕ) → pair_cmp p q ≡ Less → ((q.0 == p.0) && (q.1 == p.1)) ≡ false
other_back p q less = is_place q p ∙ ap is_eq (turned (pair_cmp q p) (sym less ∙ pair_total.antisymm p q))
  where
    turned : (o : Ordering) → Less ≡ ordering_reverse o → o ≡ Greater
    turned Less e = absurd (cc (e))
    turned Equal e = absurd (cc (e))
    turned Greater e = refl

-- ---- identity answers after a place

abbrev AreAfter : ℕ × ℕ → List SealedItem → Type 0
AreAfter p ss = AllByRecursion (λ q. pair_cmp p q ≡ Less) (map sealed_place ss)

abbrev ReportsAfter : ℕ × ℕ → List Report → Type 0
ReportsAfter p rs = AllByRecursion (λ q. pair_cmp p q ≡ Less) (map report_place rs)

pub none_there : (p : ℕ × ℕ) (ss : List SealedItem) → AreAfter p ss → answers_of ss p.0 p.1 ≡ None
none_there p [] above = refl
none_there p (s ∷ ss) above = rw (other_back p (sealed_place s) above.0) (none_there p ss above.1)

-- the first identity answers are those of no later report
unseen : (s : SealedItem) (ss : List SealedItem) (rs : List Report) → ReportsAfter (sealed_place s) rs → sealed_rows (answers_of (s ∷ ss)) rs ≡ sealed_rows (answers_of ss) rs
unseen s ss [] above = refl
unseen s ss (r ∷ rs) above =
    (λ i. answers_row r.tenant r.number (option_map (λ (x : SealedItem). x.answers) (cond (other_place (sealed_place s) (report_place r) above.0 i) (Some s) (find (is_of r.tenant r.number) ss))) ++ sealed_rows (answers_of (s ∷ ss)) rs)
    ∙ ap (λ l. answers_row r.tenant r.number (answers_of ss r.tenant r.number) ++ l) (unseen s ss rs above.1)

after_later : (p q : ℕ × ℕ) (ss : List SealedItem) → pair_cmp p q ≡ Less → AreAfter q ss → AreAfter p ss
after_later p q [] less above = tt
after_later p q (s ∷ ss) less above = (pair_total.trans p q (sealed_place s) less above.0, after_later p q ss less above.1)

reports_later : (p q : ℕ × ℕ) (rs : List Report) → pair_cmp p q ≡ Less → ReportsAfter q rs → ReportsAfter p rs
reports_later p q [] less above = tt
reports_later p q (r ∷ rs) less above = (pair_total.trans p q (report_place r) less above.0, reports_later p q rs less above.1)

absent : (q : ℕ × ℕ) (rs : List Report) → ReportsAfter q rs → find (is_report q.0 q.1) rs ≡ None
absent q [] above = refl
absent q (r ∷ rs) above = rw (other_back q (report_place r) above.0) (absent q rs above.1)

-- identity answers after the first report are of the others
not_first : (r : Report) (rs : List Report) (ss : List SealedItem) → AreAfter (report_place r) ss → AreThere (r ∷ rs) ss → AreThere rs ss
not_first r rs [] above there = tt
not_first r rs (s ∷ ss) above there = (rw (other_place (report_place r) (sealed_place s) above.0) at there.0, not_first r rs ss above.1 there.1)

pub sealed-back : (ss : List SealedItem) (rs : List Report) → IsAscending pair_cmp sealed_place ss → IsAscending pair_cmp report_place rs → AreThere rs ss → map sealed_row ss ≡ sealed_rows (answers_of ss) rs
unfolding IsStrictlySortedBy
sealed-back [] [] own order there = refl
sealed-back (s ∷ ss) [] own order there = absurd (false≢true there.0)
sealed-back [] (r ∷ rs) own order there = sealed-back [] rs own order.1 tt
sealed-back (s ∷ ss) (r ∷ rs) own order there = by (pair_cmp (report_place r) (sealed_place s)) refl (λ t. sealed-back ss rs own.1 order.1 t) (λ t. sealed-back (s ∷ ss) rs own order.1 t)
  where
    by : (o : Ordering) → pair_cmp (report_place r) (sealed_place s) ≡ o → (AreThere rs ss → map sealed_row ss ≡ sealed_rows (answers_of ss) rs) → (AreThere rs (s ∷ ss) → map sealed_row (s ∷ ss) ≡ sealed_rows (answers_of (s ∷ ss)) rs)
        → map sealed_row (s ∷ ss) ≡ sealed_rows (answers_of (s ∷ ss)) (r ∷ rs)
    by Less e here later =
        let above : AreAfter (report_place r) (s ∷ ss) = (e, after_later (report_place r) (sealed_place s) ss e own.0) in
        later (not_first r rs (s ∷ ss) above there) ∙ ap (λ o. answers_row r.tenant r.number o ++ sealed_rows (answers_of (s ∷ ss)) rs) (sym (none_there (report_place r) (s ∷ ss) above))
    by Greater e here later =
        let less : pair_cmp (sealed_place s) (report_place r) ≡ Less = pair_total.antisymm (sealed_place s) (report_place r) ∙ ap ordering_reverse e in
        let none = absent (sealed_place s) (r ∷ rs) (less, reports_later (sealed_place s) (report_place r) rs less order.0) in
        absurd (false≢true (sym (ap (λ (o : Option Report). is_some o) none) ∙ there.0))
    by Equal e here later =
        let tied : ((r.tenant == s.tenant) && (r.number == s.number)) ≡ true = is_place (report_place r) (sealed_place s) ∙ ap is_eq e in
        let parts = and_parts (r.tenant == s.tenant) (r.number == s.number) tied in
        let t : s.tenant ≡ r.tenant = sym (eqb-true r.tenant s.tenant parts.0) in
        let n : s.number ≡ r.number = sym (eqb-true r.number s.number parts.1) in
        let same : sealed_place s ≡ report_place r = λ i. (t i, n i) in
        let found : answers_of (s ∷ ss) r.tenant r.number ≡ Some s.answers = rw (eq-eqb s.tenant r.tenant t, eq-eqb s.number r.number n) refl in
        let below : AreAfter (report_place r) ss = subst (λ p. AreAfter p ss) same own.0 in
        let above : ReportsAfter (sealed_place s) rs = subst (λ p. ReportsAfter p rs) (sym same) order.0 in
        (λ i. row 7 (t i) (n i) 0 (answers_data s.answers) ∷ here (not_first r rs ss below there.1) i)
        ∙ ((λ i. answers_row r.tenant r.number (sym found i) ++ sym (unseen s ss rs above) i))
