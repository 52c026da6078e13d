-- Fields are found by their own ids, and what the public answers tell by themselves.
use Rattle.std.proofs.Common.{◌≡◌, ℕ, zero, suc, ◌<◌, Bool, true, false, not, cond, ◌&&◌, if◌then◌else◌, List, [], ◌∷◌, ◌++◌, length, get_or, filter, find, slice_get, Option, Some, None, refl, sym, ap, ◌∙◌, append_assoc, arith, inl, inr}
use Rattle.std.specs.List.{list_any}
use Rattle.std.specs.Option.{option_map, option_map_or}
use Rattle.std.specs.Cmp.Lexicographic.{bytes_decides}
use Rattle.std.proofs.lemmas.Bool.{cases_Bool, or_parts, true≢false}
use Rattle.std.proofs.lemmas.Option.{slice_get_within}
use Rattle.wb_base.specs.declared.faults.AnswerFault.{AnswerFault}
use Rattle.wb_base.specs.declared.faults.TheConstants.AnswerFault.{MISSING}
use Rattle.wb_base.specs.declared.answers.Given.{Given}
use Rattle.wb_base.specs.declared.form.Form.{Form}
use Rattle.wb_base.specs.declared.form.Field.{Field}
use Rattle.wb_base.specs.AnswerList.{Answered, answer_to, id_of, is_text}
use Rattle.wb_base.specs.FormFields.{fields_of, is_field}
use Rattle.wb_base.specs.FormFaults.{is_double, is_good, has_twice, first_from}
use Rattle.wb_base.specs.FormFields.{options_of}
use Rattle.wb_base.specs.ShownFields.{Look, shown_at, all_shown}
use Rattle.wb_base.specs.AnswerFaults.{is_identity, is_known, public_of, is_marked, sealed_of, first_without, first_fault, field_fault, or_next, unknown_or, answers_fault}
use Rattle.wb_base.proofs.GoodForms.{good_parts}
use Rattle.wb_base.proofs.Sealing.{public-same, public-answers}
use Rattle.wb_trigger.specs.PublicAnswers.{AreAlike, IsPublicField}
use Rattle.wb_trigger.proofs.MarkLemmas.{length-shown}
use Rattle.wb_trigger.proofs.FaultLemmas.{find-far}

-- no item passes a test, so none is found
none_found : {X : Type 0} (p : X → Bool) (xs : List X) → list_any p xs ≡ false → find p xs ≡ None
none_found p [] e = refl
none_found p (x ∷ xs) e = let parts = or_parts (p x) (list_any p xs) e in rw (parts.0, none_found p xs parts.1) refl

first_none : (b : Bool) (id : List ℕ) (o : Option (List ℕ)) → (if b then Some id else o) ≡ None → (b ≡ false) × (o ≡ None)
first_none true id o e = absurd cc
first_none false id o e = (refl, e)

own_id : (t : List ℕ) → is_text t t ≡ true
own_id t = (bytes_decides t t).1 refl

-- where no id comes twice, a field is found by its own id
found : (before fs : List Field) (k : ℕ) (f : Field) → first_from is_double before fs ≡ None → slice_get fs k ≡ Some f → find (is_field f.id) (before ++ fs) ≡ Some f
found before [] k f e here = absurd cc
found before (g ∷ fs) zero f e here =
    let parts = first_none (is_double before g) g.id (first_from is_double (before ++ g ∷ []) fs) e in
    let fresh = or_parts (list_any (is_field g.id) before) (has_twice (options_of g.kind)) parts.0 in
    let first : find (is_field g.id) (before ++ g ∷ fs) ≡ Some g = find-far (is_field g.id) before (g ∷ fs) (none_found (is_field g.id) before fresh.0) ∙ rw (own_id g.id) refl in
    let is : g ≡ f = cc in
    ap (λ (h : Field). find (is_field h.id) (before ++ g ∷ fs)) (sym is) ∙ first ∙ ap Some is
found before (g ∷ fs) (suc k) f e here =
    let parts = first_none (is_double before g) g.id (first_from is_double (before ++ g ∷ []) fs) e in
    ap (find (is_field f.id)) (sym (append_assoc before (g ∷ []) fs)) ∙ found (before ++ g ∷ []) fs k f parts.1 here

-- the field of a place of a good form tells whether its id is an identity field's
pub identity_of_field : (form : Form) (k : ℕ) (f : Field) → is_good form ≡ true → slice_get (fields_of form.steps) k ≡ Some f → is_identity form f.id ≡ f.identity
identity_of_field form k f good here =
    let at : find (is_field f.id) (fields_of form.steps) ≡ Some f = found [] (fields_of form.steps) k f (good_parts form good).distinct here in
    ap (λ (o : Option Field). option_map_or (λ (g : Field). g.identity) o false) at

-- whether a public field is shown hangs on the public answers alone
pub shown_by_public : (form : Form) (answers : Answered) (k : ℕ) (f : Field) → is_good form ≡ true → IsPublicField form k f → shown_at form answers k ≡ shown_at form (public_of form answers) k
shown_by_public form answers k f good public =
    let parts = good_parts form good in
    public-same (answer_to answers) (answer_to (public_of form answers)) (fields_of form.steps) (public-answers form answers) parts.in_time parts.unsealed k f public.0 public.1

-- a public field has the answer that it has among the public answers
pub answer_by_public : (form : Form) (answers : Answered) (k : ℕ) (f : Field) → is_good form ≡ true → IsPublicField form k f → answer_to answers f.id ≡ answer_to (public_of form answers) f.id
answer_by_public form answers k f good public = public-answers form answers f.id (identity_of_field form k f good public.0 ∙ public.1)

pub alike_shown : (form : Form) (a b : Answered) (k : ℕ) (f : Field) → is_good form ≡ true → AreAlike form a b → IsPublicField form k f → shown_at form a k ≡ shown_at form b k
alike_shown form a b k f good alike public =
    shown_by_public form a k f good public ∙ ap (λ (v : Answered). shown_at form v k) alike.0 ∙ sym (shown_by_public form b k f good public)

pub alike_answer : (form : Form) (a b : Answered) (k : ℕ) (f : Field) → is_good form ≡ true → AreAlike form a b → IsPublicField form k f → answer_to a f.id ≡ answer_to b f.id
alike_answer form a b k f good alike public =
    answer_by_public form a k f good public ∙ ap (λ (v : Answered). answer_to v f.id) alike.0 ∙ sym (answer_by_public form b k f good public)

-- ---- the public answers once more

module _ {X : Type 0} (q : X → Bool) where
  pub filter-twice : (xs : List X) → filter q (filter q xs) ≡ filter q xs
  filter-twice [] = refl
  filter-twice (x ∷ xs) = elim (q x) as (λ b. q x ≡ b → filter q (cond b (x ∷ filter q xs) (filter q xs)) ≡ cond b (x ∷ filter q xs) (filter q xs)) [
    | true ↦ λ e. rw e (ap (λ ys. x ∷ ys) (filter-twice xs))
    | false ↦ λ e. filter-twice xs
  ] refl

  pub none_passes : (xs : List X) → list_any q (filter (λ x. not (q x)) xs) ≡ false
  none_passes [] = refl
  none_passes (x ∷ xs) = elim (q x) as (λ b. q x ≡ b → list_any q (cond (not b) (x ∷ filter (λ y. not (q y)) xs) (filter (λ y. not (q y)) xs)) ≡ false) [
    | true ↦ λ e. none_passes xs
    | false ↦ λ e. rw e (none_passes xs)
  ] refl

  pub none_left : (xs : List X) → filter q (filter (λ x. not (q x)) xs) ≡ []
  none_left [] = refl
  none_left (x ∷ xs) = elim (q x) as (λ b. q x ≡ b → filter q (cond (not b) (x ∷ filter (λ y. not (q y)) xs) (filter (λ y. not (q y)) xs)) ≡ []) [
    | true ↦ λ e. none_left xs
    | false ↦ λ e. rw e (none_left xs)
  ] refl

pub public-twice : (form : Form) (answers : Answered) → public_of form (public_of form answers) ≡ public_of form answers
public-twice form answers = filter-twice (λ (entry : List ℕ × Given). not (is_identity form (id_of entry))) answers

pub marked-public : (form : Form) (answers : Answered) → is_marked form (public_of form answers) ≡ false
marked-public form answers = none_passes (λ (entry : List ℕ × Given). is_identity form (id_of entry)) answers

pub sealed-public : (form : Form) (answers : Answered) → sealed_of form (public_of form answers) ≡ []
sealed-public form answers = none_left (λ (entry : List ℕ × Given). is_identity form (id_of entry)) answers

-- ---- the public part of right answers is right

-- what a filter drops is not found
find-dropped : {X : Type 0} (test keeps : X → Bool) → ((x : X) → test x ≡ true → keeps x ≡ false) → (xs : List X) → find test (filter keeps xs) ≡ None
find-dropped test keeps h [] = refl
find-dropped test keeps h (x ∷ xs) = elim (keeps x) as (λ b. keeps x ≡ b → find test (cond b (x ∷ filter keeps xs) (filter keeps xs)) ≡ None) [
  | true ↦ λ e. elim (cases_Bool (test x)) [
    | inl passes ↦ absurd (true≢false (sym e ∙ h x passes))
    | inr fails ↦ rw fails (find-dropped test keeps h xs)
  ]
  | false ↦ λ e. find-dropped test keeps h xs
] refl

-- among the public answers there is none to an identity field
no_public_answer : (form : Form) (answers : Answered) (id : List ℕ) → is_identity form id ≡ true → answer_to (public_of form answers) id ≡ None
no_public_answer form answers id identity =
    ap (option_map (λ (entry : List ℕ × Given). entry.1)) (find-dropped (λ (entry : List ℕ × Given). is_text (id_of entry) id) (λ (entry : List ℕ × Given). not (is_identity form (id_of entry)))
    (λ entry at. ap not (ap (is_identity form) ((bytes_decides (id_of entry) id).0 at) ∙ identity)) answers)

-- fewer answers have no more unknown ids
without-filter : (test : List ℕ → Bool) (keeps : List ℕ × Given → Bool) (xs : Answered) → first_without test xs ≡ None → first_without test (filter keeps xs) ≡ None
without-filter test keeps [] e = refl
without-filter test keeps (x ∷ xs) e =
    let known = known_first (test (id_of x)) (id_of x) (first_without test xs) e in
    elim (keeps x) as (λ b. first_without test (cond b (x ∷ filter keeps xs) (filter keeps xs)) ≡ None) [
      | true ↦ rw known.0 (without-filter test keeps xs known.1)
      | false ↦ without-filter test keeps xs known.1
    ]
  where
    known_first : (b : Bool) (id : List ℕ) (o : Option (List ℕ)) → (if b then o else Some id) ≡ None → (b ≡ true) × (o ≡ None)
    known_first true id o e = (refl, e)
    known_first false id o e = absurd cc

unknown_none : (o : Option (List ℕ)) (rest : Option AnswerFault) → unknown_or o rest ≡ None → (o ≡ None) × (rest ≡ None)
unknown_none None rest e = (refl, e)
unknown_none (Some id) rest e = absurd cc

next_none : (o : Option ℕ) (id : List ℕ) (rest : Option AnswerFault) → or_next o id rest ≡ None → (o ≡ None) × (rest ≡ None)
next_none None id rest e = (refl, e)
next_none (Some code) id rest e = absurd cc

abbrev every : Field → Bool
every f = true

-- where no field has a fault, that at a place has none
faultless : (look : Look) (marked : Bool) (marks : List Bool) (fs : List Field) (k : ℕ) (f : Field) → first_fault every look marked marks fs ≡ None
    → slice_get fs k ≡ Some f → k < length marks → field_fault (get_or marks k false) marked f (look f.id) ≡ None
faultless look marked marks [] k f e here lt = absurd cc
faultless look marked [] (g ∷ fs) k f e here lt = absurd (omega arith)
faultless look marked (mark ∷ marks) (g ∷ fs) zero f e here lt =
    let is : g ≡ f = cc in
    ap (λ (h : Field). field_fault mark marked h (look h.id)) (sym is) ∙ (next_none (field_fault mark marked g (look g.id)) g.id (first_fault every look marked marks fs) e).0
faultless look marked (mark ∷ marks) (g ∷ fs) (suc k) f e here lt =
    faultless look marked marks fs k f (next_none (field_fault mark marked g (look g.id)) g.id (first_fault every look marked marks fs) e).1 here (omega (arith, lt))

-- where that at each place has none, no field has a fault
all_faultless : (look : Look) (marked : Bool) (marks : List Bool) (fs : List Field)
    → ((k : ℕ) (f : Field) → slice_get fs k ≡ Some f → field_fault (get_or marks k false) marked f (look f.id) ≡ None) → first_fault every look marked marks fs ≡ None
all_faultless look marked [] fs h = refl
all_faultless look marked (mark ∷ marks) [] h = refl
all_faultless look marked (mark ∷ marks) (f ∷ fs) h = rw (h zero f refl, all_faultless look marked marks fs (λ k g here. h (suc k) g here)) refl

-- the mark does not matter to a public field
fault-public : (shown m n : Bool) (f : Field) (o : Option Given) → f.identity ≡ false → field_fault shown m f o ≡ field_fault shown n f o
fault-public shown m n f None e = rw e refl
fault-public shown m n f (Some given) e = refl

-- no identity field is missed where none is answered
fault-unmarked : (shown : Bool) (f : Field) → f.identity ≡ true → field_fault shown false f None ≡ None
fault-unmarked shown f e = rw e (elim shown as (λ b. (if b && f.required && false then Some MISSING else None) ≡ None) [
  | true ↦ elim f.required as (λ b. (if b && false then Some MISSING else None) ≡ None) [ true ↦ refl | false ↦ refl ]
  | false ↦ refl
])

module _ (form : Form) (answers : Answered) (good : is_good form ≡ true) (right : answers_fault form answers ≡ None) where
  abbrev parts : (first_without (is_known form) answers ≡ None) × (first_fault every (answer_to answers) (is_marked form answers) (all_shown (answer_to answers) (fields_of form.steps)) (fields_of form.steps) ≡ None)
  parts = unknown_none (first_without (is_known form) answers) (first_fault every (answer_to answers) (is_marked form answers) (all_shown (answer_to answers) (fields_of form.steps)) (fields_of form.steps)) right

  field_right : (k : ℕ) (f : Field) → slice_get (fields_of form.steps) k ≡ Some f
      → field_fault (shown_at form (public_of form answers) k) (is_marked form (public_of form answers)) f (answer_to (public_of form answers) f.id) ≡ None
  field_right k f here = elim (cases_Bool f.identity) [
    | inl identity ↦
        rw (marked-public form answers, no_public_answer form answers f.id (identity_of_field form k f good here ∙ identity)) (fault-unmarked (shown_at form (public_of form answers) k) f identity)
    | inr public ↦
        let lt : k < length (all_shown (answer_to answers) (fields_of form.steps)) = omega (arith, slice_get_within (fields_of form.steps) k f here, length-shown (answer_to answers) [] (fields_of form.steps)) in
        let was : field_fault (shown_at form answers k) (is_marked form answers) f (answer_to answers f.id) ≡ None =
        faultless (answer_to answers) (is_marked form answers) (all_shown (answer_to answers) (fields_of form.steps)) (fields_of form.steps) k f parts.1 here lt in
        fault-public (shown_at form (public_of form answers) k) (is_marked form (public_of form answers)) (is_marked form answers) f (answer_to (public_of form answers) f.id) public
        ∙ ap (λ b. field_fault b (is_marked form answers) f (answer_to (public_of form answers) f.id)) (sym (shown_by_public form answers k f good (here, public)))
        ∙ ap (λ o. field_fault (shown_at form answers k) (is_marked form answers) f o) (sym (answer_by_public form answers k f good (here, public)))
        ∙ was
  ]

  pub public_right : answers_fault form (public_of form answers) ≡ None
  public_right =
      let known : first_without (is_known form) (public_of form answers) ≡ None = without-filter (is_known form) (λ entry. not (is_identity form (id_of entry))) answers parts.0 in
      let fields : first_fault every (answer_to (public_of form answers)) (is_marked form (public_of form answers)) (all_shown (answer_to (public_of form answers)) (fields_of form.steps)) (fields_of form.steps) ≡ None =
      all_faultless (answer_to (public_of form answers)) (is_marked form (public_of form answers)) (all_shown (answer_to (public_of form answers)) (fields_of form.steps)) (fields_of form.steps) field_right in
      ap (λ u. unknown_or u (first_fault every (answer_to (public_of form answers)) (is_marked form (public_of form answers)) (all_shown (answer_to (public_of form answers)) (fields_of form.steps)) (fields_of form.steps))) known ∙ fields
