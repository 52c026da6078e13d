-- The identity answers that stand in rows are those that tables hold.
use Rattle.std.proofs.Common.{◌≡◌, ℕ, Bool, true, false, cond, List, [], ◌∷◌, ◌++◌, find, Option, Some, None, refl, sym, ◌∙◌}
use Rattle.std.proofs.lemmas.Bool.{and_parts, eq-eqb, eqb-true}
use Rattle.std.specs.Option.{is_some}
use Rattle.std.specs.Prelude.{◌==◌, ◌&&◌}
use Rattle.wb_base.specs.AnswerList.{Answered}
use Rattle.wb_custody.specs.declared.sealed.SealedItem.{SealedItem}
use Rattle.wb_custody.specs.SealedAnswers.{answers_of}
use Rattle.wb_rows.specs.Reports.{Report}
use Rattle.wb_rows.specs.HeldItems.{sealed_item, sealed_items}
use Rattle.wb_rows.specs.ReportRules.{is_report}

-- those of a report that is there
abbrev where_there : Bool → Option Answered → Option Answered
where_there b o = cond b o None

-- identity answers of another report are passed over
other_one : (t n u m : ℕ) (o : Option Answered) (more : List SealedItem) → ((u == t) && (m == n)) ≡ false → answers_of (sealed_item u m o ++ more) t n ≡ answers_of more t n
other_one t n u m None more other = refl
other_one t n u m (Some answers) more other = rw other refl

own_one : (t n : ℕ) (o : Option Answered) (more : List SealedItem) (there : Bool) → answers_of more t n ≡ where_there there o → answers_of (sealed_item t n o ++ more) t n ≡ o
own_one t n None more true rest = rest
own_one t n None more false rest = rest
own_one t n (Some answers) more there rest = rw (eq-eqb t t refl, eq-eqb n n refl) refl

found_there : (sealed : ℕ → ℕ → Option Answered) (rs : List Report) (t n : ℕ) → answers_of (sealed_items sealed rs) t n ≡ where_there (is_some (find (is_report t n) rs)) (sealed t n)
found_there sealed [] t n = refl
found_there sealed (r ∷ rs) t n = by (is_report t n r) refl (found_there sealed rs t n)
  where
    by : (b : Bool) → is_report t n r ≡ b → answers_of (sealed_items sealed rs) t n ≡ where_there (is_some (find (is_report t n) rs)) (sealed t n) → answers_of (sealed_items sealed (r ∷ rs)) t n ≡ where_there (is_some (cond b (Some r) (find (is_report t n) rs))) (sealed t n)
    by true is rest =
        let own = and_parts (r.tenant == t) (r.number == n) is in
        let tenant = eqb-true r.tenant t own.0 in
        let number = eqb-true r.number n own.1 in
        (λ i. answers_of (sealed_item (tenant i) (number i) (sealed (tenant i) (number i)) ++ sealed_items sealed rs) t n)
        ∙ own_one t n (sealed t n) (sealed_items sealed rs) (is_some (find (is_report t n) rs)) rest
    by false is rest = other_one t n r.tenant r.number (sealed r.tenant r.number) (sealed_items sealed rs) is ∙ rest

-- where nothing is held of a report that is not there, they are all that is held
pub answers-held : (sealed : ℕ → ℕ → Option Answered) (rs : List Report) (t n : ℕ) → (is_some (find (is_report t n) rs) ≡ false → sealed t n ≡ None) → answers_of (sealed_items sealed rs) t n ≡ sealed t n
answers-held sealed rs t n none = found_there sealed rs t n ∙ by (is_some (find (is_report t n) rs)) none
  where
    by : (b : Bool) → (b ≡ false → sealed t n ≡ None) → where_there b (sealed t n) ≡ sealed t n
    by true absent = refl
    by false absent = sym (absent refl)
