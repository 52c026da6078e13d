-- Look-ups in the table of reports.
use Rattle.std.proofs.Common.{◌≡◌, ◌≢◌, ◌⊎◌, inl, inr, ℕ, ◌<◌, ◌++◌, Bool, true, false, cond, List, [], ◌∷◌, map, find, Option, Some, None, refl, sym, ap, ◌∙◌, arith}
use Rattle.std.specs.Prelude.{◌==◌, if◌then◌else◌}
use Rattle.std.specs.Option.{option_map}
use Rattle.std.specs.Ordering.{nat_cmp, is_eq}
use Rattle.std.specs.declared.cmp.Ordering.TheVariants.{Less}
use Rattle.std.specs.Cmp.{nat_cmp_is, unsigned_ties}
use Rattle.std.proofs.lemmas.Bool.{cases_Bool}
use Rattle.std.proofs.lemmas.Bool.Decides.{nat_tests}
use Rattle.wb_base.specs.AnswerList.{Answered}
use Rattle.wb_base.proofs.AnswerLemmas.{find-same}
use Rattle.wb_list.specs.Keyed.{has_key, insert_item}
use Rattle.wb_custody.specs.declared.sealed.SealedItem.{SealedItem}
use Rattle.wb_custody.specs.SealedAnswers.{answers_of}
use Rattle.wb_model.specs.Tables.{has_number, report}
use Rattle.wb_tables.specs.Kept.{case_of}
use Rattle.wb_model.specs.Opened.{AtMost}
use Rattle.wb_tables.specs.declared.tenancy.Report.{Report as KeptCase}

abbrev pub number_of : KeptCase → ℕ
number_of c = c.number

drawn_out : {X Y : Type 0} (f : X → Y) (b : Bool) (x : X) (o : Option X) → cond b (Some (f x)) (option_map f o) ≡ option_map f (cond b (Some x) o)
drawn_out f true x o = refl
drawn_out f false x o = refl

pub find-map : {X Y : Type 0} (f : X → Y) (p : Y → Bool) (xs : List X) → find p (map f xs) ≡ option_map f (find (λ x. p (f x)) xs)
find-map f p [] = refl
find-map f p (x ∷ xs) = ap (cond (p (f x)) (Some (f x))) (find-map f p xs) ∙ drawn_out f (p (f x)) x (find (λ x. p (f x)) xs)

-- the report of a number is that of the key
pub report-found : (n : ℕ) (cs : List KeptCase) → report n (map case_of cs) ≡ option_map case_of (find (has_key nat_cmp number_of n) cs)
report-found n cs = find-map case_of (has_number n) cs ∙ ap (option_map case_of) (find-same (λ c. has_number n (case_of c)) (has_key nat_cmp number_of n) (λ c. unsigned_ties c.number n) cs)

-- a report with the greatest number is new, and goes to the end
pub absent_above : (last n : ℕ) (cs : List KeptCase) → AtMost last (map case_of cs) → last < n → find (has_key nat_cmp number_of n) cs ≡ None
absent_above last n [] all lt = refl
absent_above last n (c ∷ cs) all lt =
    let other : is_eq (nat_cmp c.number n) ≡ false = sym (unsigned_ties c.number n) ∙ grind (arith, nat_tests, all.0, lt) in
    rw other (absent_above last n cs all.1 lt)

pub insert_above : (last : ℕ) (cs : List KeptCase) (c : KeptCase) → AtMost last (map case_of cs) → last < c.number → insert_item nat_cmp number_of cs c ≡ cs ++ c ∷ []
insert_above last [] c all lt = refl
insert_above last (d ∷ cs) c all lt =
    let less : nat_cmp d.number c.number ≡ Less = sym (nat_cmp_is d.number c.number Less (omega (arith, all.0, lt))) in
    rw (less, insert_above last cs c all.1 lt) refl

pub map_push : (cs : List KeptCase) (c : KeptCase) → map case_of (cs ++ c ∷ []) ≡ map case_of cs ++ case_of c ∷ []
map_push [] c = refl
map_push (d ∷ cs) c = ap (λ ds. case_of d ∷ ds) (map_push cs c)

-- identity answers that were put under a number
pub put_under : (items new : List SealedItem) (t number : ℕ) (a : Answered) → answers_of new t number ≡ Some a → ((u n : ℕ) → (u ≢ t) ⊎ (n ≢ number) → answers_of new u n ≡ answers_of items u n)
    → (n : ℕ) → answers_of new t n ≡ (if n == number then Some a else answers_of items t n)
put_under items new t number a here others n = elim (cases_Bool (n == number)) [
  | inl e ↦ let same : n ≡ number = grind (arith, nat_tests, e) in rw (e, same) here
  | inr e ↦ let other : n ≢ number = λ same. absurd (grind (arith, nat_tests, e, same)) in rw e (others t n (inr other))
]
