-- Look-ups by the order of tenant and number find what look-ups by equality find.
use Rattle.std.proofs.Common.{◌≡◌, ℕ, Bool, true, false, cond, List, [], ◌∷◌, map, find, Option, Some, None, refl, sym, ap, ◌∙◌}
use Rattle.std.specs.Cmp.{both_tied, unsigned_ties}
use Rattle.std.specs.Option.{option_map, is_some}
use Rattle.std.specs.Prelude.{◌&&◌}
use Rattle.wb_base.proofs.AnswerLemmas.{find-same}
use Rattle.wb_custody.specs.declared.sealed.SealedItem.{SealedItem}
use Rattle.wb_custody.specs.SealedAnswers.{answers_of, is_of, pair_cmp, sealed_place}
use Rattle.wb_list.specs.Keyed.{has_key}
use Rattle.wb_rows.specs.declared.cases.CaseItem.{CaseItem}
use Rattle.wb_rows.specs.Reports.{case_report}
use Rattle.wb_rows.specs.ReportRules.{is_report}

mapped : {X Y : Type 0} (f : X → Y) (o : Option X) → is_some (option_map f o) ≡ is_some o
mapped f None = refl
mapped f (Some x) = refl

pub sealed_there : (items : List SealedItem) (t n : ℕ) → is_some (answers_of items t n) ≡ is_some (find (has_key pair_cmp sealed_place (t, n)) items)
sealed_there items t n =
    mapped (λ (x : SealedItem). x.answers) (find (is_of t n) items)
    ∙ ap (λ (o : Option SealedItem). is_some o) (find-same (is_of t n) (has_key pair_cmp sealed_place (t, n)) (λ x. both_tied _ _ _ _ (unsigned_ties x.tenant t) (unsigned_ties x.number n)) items)

abbrev pub case_place : CaseItem → ℕ × ℕ
case_place x = (x.tenant, x.number)

pub find-map : {X Y : Type 0} (f : X → Y) (p : Y → Bool) (xs : List X) → find p (map f xs) ≡ option_map f (find (λ x. p (f x)) xs)
find-map f p [] = refl
find-map {X} f p (x ∷ xs) = by (p (f x)) (find-map f p xs)
  where
    by : (b : Bool) → find p (map f xs) ≡ option_map f (find (λ y. p (f y)) xs) → cond b (Some (f x)) (find p (map f xs)) ≡ option_map f (cond b (Some x) (find (λ y. p (f y)) xs))
    by true rest = refl
    by false rest = rest

pub report_there : (items : List CaseItem) (t n : ℕ) → option_map case_report (find (has_key pair_cmp case_place (t, n)) items) ≡ find (is_report t n) (map case_report items)
report_there items t n =
    ap (option_map case_report) (sym (find-same (λ x. is_report t n (case_report x)) (has_key pair_cmp case_place (t, n)) (λ x. both_tied _ _ _ _ (unsigned_ties x.tenant t) (unsigned_ties x.number n)) items))
    ∙ sym (find-map case_report (is_report t n) items)

pub none_valid : (b : Bool) → false ≡ (b && false)
none_valid true = refl
none_valid false = refl
