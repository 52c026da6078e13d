-- Answers that are valid for a good form stay so in their two parts: the public ones by themselves, and the identity answers after them.
use Rattle.std.proofs.Common.{◌≡◌, inl, inr, ℕ, zero, suc, length, Bool, true, false, not, cond, ◌&&◌, ◌||◌, List, [], ◌∷◌, ◌++◌, get_or, filter, find, slice_get, Option, Some, None, refl, sym, ap, ◌∙◌, arith}
use Rattle.std.specs.Prelude.{◌==◌}
use Rattle.std.specs.List.{list_any}
use Rattle.std.specs.Option.{option_map, option_map_or}
use Rattle.std.specs.Cmp.Lexicographic.{bytes_decides}
use Rattle.std.proofs.lemmas.Bool.{or_parts}
use Rattle.std.proofs.lemmas.Bool.Decides.{nat_tests}
use Rattle.wb_base.specs.declared.answers.Given.{Given}
use Rattle.wb_base.specs.declared.faults.AnswerFault.{AnswerFault}
use Rattle.wb_base.specs.declared.faults.TheConstants.AnswerFault.{MISSING}
use Rattle.wb_base.specs.declared.form.Form.{Form}
use Rattle.wb_base.specs.declared.form.Field.{Field}
use Rattle.wb_base.specs.AnswerList.{Answered, answer_to, id_of, is_text}
use Rattle.wb_base.specs.AnswerFaults.{field_fault, is_identity, public_of, sealed_of, is_marked, first_fault, first_without, or_next, unknown_or, is_known, answers_fault, first_some, answer_of_both, identity_fault}
use Rattle.wb_base.specs.FormFields.{fields_of, is_field}
use Rattle.wb_base.specs.FormFaults.{is_double, first_from, is_good}
use Rattle.wb_base.specs.ShownFields.{Look, all_shown, shown_from}
use Rattle.wb_base.proofs.GoodForms.{good_parts}
use Rattle.wb_base.proofs.Sealing.{public-same, public-answers}
use Rattle.wb_model.proofs.Found.{Held}

-- ---- what each field finds

-- texts
same_id : (id k : List ℕ) → is_text k id ≡ true → k ≡ id
same_id id k e = (bytes_decides k id).0 e

own_id : (id : List ℕ) → is_text id id ≡ true
own_id id = (bytes_decides id id).1 refl

none_or : (b : Bool) (id : List ℕ) (o : Option (List ℕ)) → cond b (Some id) o ≡ None → (b ≡ false) × (o ≡ None)
none_or true id o e = absurd cc
none_or false id o e = (refl, e)

-- no earlier field has a later one's id
found_after : (before fs : List Field) (f : Field) → first_from is_double before fs ≡ None → Held f fs → list_any (is_field f.id) before ≡ false
found_after before [] f distinct h = absurd h
found_after before (g ∷ fs) f distinct (inl e) =
    let parts = none_or (is_double before g) g.id (first_from is_double (before ++ g ∷ []) fs) distinct in
    ap (λ (x : Field). list_any (is_field x.id) before) e ∙ (or_parts (list_any (is_field g.id) before) _ parts.0).0
found_after before (g ∷ fs) f distinct (inr h) =
    let parts = none_or (is_double before g) g.id (first_from is_double (before ++ g ∷ []) fs) distinct in
    first_any before g (found_after (before ++ g ∷ []) fs f parts.1 h)
  where
    first_any : (xs : List Field) (x : Field) → list_any (is_field f.id) (xs ++ x ∷ []) ≡ false → list_any (is_field f.id) xs ≡ false
    first_any [] x e = refl
    first_any (y ∷ ys) x e = let p = or_parts (is_field f.id y) (list_any (is_field f.id) (ys ++ x ∷ [])) e in ap (λ b. b || list_any (is_field f.id) ys) p.0 ∙ first_any ys x p.1

-- a field is found under its id
found_own : (before fs : List Field) (f : Field) → first_from is_double before fs ≡ None → Held f fs → find (is_field f.id) fs ≡ Some f
found_own before [] f distinct h = absurd h
found_own before (g ∷ fs) f distinct (inl e) = ap (λ b. cond b (Some g) (find (is_field f.id) fs)) (ap (λ (x : Field). is_text g.id x.id) e ∙ own_id g.id) ∙ ap Some (sym e)
found_own before (g ∷ fs) f distinct (inr h) =
    let parts = none_or (is_double before g) g.id (first_from is_double (before ++ g ∷ []) fs) distinct in
    ap (λ b. cond b (Some g) (find (is_field f.id) fs)) (last_any before (found_after (before ++ g ∷ []) fs f parts.1 h)) ∙ found_own (before ++ g ∷ []) fs f parts.1 h
  where
    last_any : (xs : List Field) → list_any (is_field f.id) (xs ++ g ∷ []) ≡ false → is_field f.id g ≡ false
    last_any [] e = (or_parts (is_field f.id g) false e).0
    last_any (y ∷ ys) e = last_any ys (or_parts (is_field f.id y) (list_any (is_field f.id) (ys ++ g ∷ [])) e).1

-- ---- filtered answers

-- a filter that keeps what a test finds leaves what it finds
find-kept : {X : Type 0} (test keeps : X → Bool) → ((x : X) → test x ≡ true → keeps x ≡ true) → (xs : List X) → find test (filter keeps xs) ≡ find test xs
find-kept test keeps h [] = refl
find-kept {X} test keeps h (x ∷ xs) = by (keeps x) (test x) refl refl (find-kept test keeps h xs)
  where
    by : (b d : Bool) → keeps x ≡ b → test x ≡ d → find test (filter keeps xs) ≡ find test xs → find test (cond b (x ∷ filter keeps xs) (filter keeps xs)) ≡ cond d (Some x) (find test xs)
    by true d k t ih = ap (λ b. cond b (Some x) (find test (filter keeps xs))) t ∙ ap (cond d (Some x)) ih
    by false false k t ih = ih
    by false true k t ih = absurd (let bad : true ≡ false = sym (h x t) ∙ k in cc bad)

-- what a filter that drops what a test finds leaves for it
find_dropped : {X : Type 0} (test keeps : X → Bool) → ((x : X) → test x ≡ true → keeps x ≡ false) → (xs : List X) → find test (filter keeps xs) ≡ None
find_dropped test keeps h [] = refl
find_dropped {X} test keeps h (x ∷ xs) = by (keeps x) (test x) refl refl (find_dropped test keeps h xs)
  where
    by : (b d : Bool) → keeps x ≡ b → test x ≡ d → find test (filter keeps xs) ≡ None → find test (cond b (x ∷ filter keeps xs) (filter keeps xs)) ≡ None
    by false d k t ih = ih
    by true true k t ih = absurd (let bad : false ≡ true = sym (h x t) ∙ k in cc bad)
    by true false k t ih = ap (λ b. cond b (Some x) (find test (filter keeps xs))) t ∙ ih

public_none : (form : Form) (answers : Answered) (id : List ℕ) → is_identity form id ≡ true → answer_to (public_of form answers) id ≡ None
public_none form answers id identity = ap (option_map (λ (entry : List ℕ × Given). entry.1)) (find_dropped (λ entry. is_text (id_of entry) id) (λ entry. not (is_identity form (id_of entry)))
    (λ entry at. ap not (ap (is_identity form) (same_id id (id_of entry) at) ∙ identity)) answers)

sealed_none : (form : Form) (answers : Answered) (id : List ℕ) → is_identity form id ≡ false → answer_to (sealed_of form answers) id ≡ None
sealed_none form answers id public = ap (option_map (λ (entry : List ℕ × Given). entry.1)) (find_dropped (λ entry. is_text (id_of entry) id) (λ entry. is_identity form (id_of entry))
    (λ entry at. ap (is_identity form) (same_id id (id_of entry) at) ∙ public) answers)

sealed_same : (form : Form) (answers : Answered) (id : List ℕ) → is_identity form id ≡ true → answer_to (sealed_of form answers) id ≡ answer_to answers id
sealed_same form answers id identity = ap (option_map (λ (entry : List ℕ × Given). entry.1)) (find-kept (λ entry. is_text (id_of entry) id) (λ entry. is_identity form (id_of entry))
    (λ entry at. ap (is_identity form) (same_id id (id_of entry) at) ∙ identity) answers)

-- both parts answer rest all do
both_parts : (form : Form) (answers : Answered) (id : List ℕ) → answer_of_both (public_of form answers) (sealed_of form answers) id ≡ answer_to answers id
both_parts form answers id = by (is_identity form id) refl
  where
    first_or : (o : Option Given) → first_some o None ≡ o
    first_or None = refl
    first_or (Some x) = refl

    by : (b : Bool) → is_identity form id ≡ b → first_some (answer_to (public_of form answers) id) (answer_to (sealed_of form answers) id) ≡ answer_to answers id
    by true is = ap (λ o. first_some o (answer_to (sealed_of form answers) id)) (public_none form answers id is) ∙ sealed_same form answers id is
    by false is = ap (first_some (answer_to (public_of form answers) id)) (sealed_none form answers id is) ∙ (first_or (answer_to (public_of form answers) id) ∙ sym (public-answers form answers id is))

kept_known : (test keeps : List ℕ → Bool) (answers : Answered) → first_without test answers ≡ None → first_without test (filter (λ entry. keeps (id_of entry)) answers) ≡ None
kept_known test keeps [] e = refl
kept_known test keeps (a ∷ rest) e = by (test (id_of a)) (keeps (id_of a)) refl e (kept_known test keeps rest)
  where
    by : (b d : Bool) → test (id_of a) ≡ b → cond b (first_without test rest) (Some (id_of a)) ≡ None → (first_without test rest ≡ None → first_without test (filter (λ entry. keeps (id_of entry)) rest) ≡ None) → first_without test (cond d (a ∷ filter (λ entry. keeps (id_of entry)) rest) (filter (λ entry. keeps (id_of entry)) rest)) ≡ None
    by false d t f ih = absurd cc
    by true false t f ih = ih f
    by true true t f ih = ap (λ b. cond b (first_without test (filter (λ entry. keeps (id_of entry)) rest)) (Some (id_of a))) t ∙ ih f

all_kept : (keeps : List ℕ → Bool) (answers : Answered) → first_without keeps (filter (λ entry. keeps (id_of entry)) answers) ≡ None
all_kept keeps [] = refl
all_kept keeps (a ∷ rest) = by (keeps (id_of a)) refl (all_kept keeps rest)
  where
    by : (d : Bool) → keeps (id_of a) ≡ d → first_without keeps (filter (λ entry. keeps (id_of entry)) rest) ≡ None → first_without keeps (cond d (a ∷ filter (λ entry. keeps (id_of entry)) rest) (filter (λ entry. keeps (id_of entry)) rest)) ≡ None
    by false k ih = ih
    by true k ih = ap (λ b. cond b (first_without keeps (filter (λ entry. keeps (id_of entry)) rest)) (Some (id_of a))) k ∙ ih

none_marked : (keeps : List ℕ → Bool) (answers : Answered) → list_any (λ entry. keeps (id_of entry)) (filter (λ entry. not (keeps (id_of entry))) answers) ≡ false
none_marked keeps [] = refl
none_marked keeps (a ∷ rest) = by (keeps (id_of a)) refl (none_marked keeps rest)
  where
    by : (d : Bool) → keeps (id_of a) ≡ d → list_any (λ entry. keeps (id_of entry)) (filter (λ entry. not (keeps (id_of entry))) rest) ≡ false → list_any (λ entry. keeps (id_of entry)) (cond (not d) (a ∷ filter (λ entry. not (keeps (id_of entry))) rest) (filter (λ entry. not (keeps (id_of entry))) rest)) ≡ false
    by true k ih = ih
    by false k ih = ap (λ b. b || list_any (λ entry. keeps (id_of entry)) (filter (λ entry. not (keeps (id_of entry))) rest)) k ∙ ih

pub public_unmarked : (form : Form) (answers : Answered) → is_marked form (public_of form answers) ≡ false
public_unmarked form answers = none_marked (is_identity form) answers

all_marked : (keeps : List ℕ → Bool) (answers : Answered) → list_any (λ entry. keeps (id_of entry)) (filter (λ entry. keeps (id_of entry)) answers) ≡ list_any (λ entry. keeps (id_of entry)) answers
all_marked keeps [] = refl
all_marked keeps (a ∷ rest) = by (keeps (id_of a)) refl (all_marked keeps rest)
  where
    by : (d : Bool) → keeps (id_of a) ≡ d → list_any (λ entry. keeps (id_of entry)) (filter (λ entry. keeps (id_of entry)) rest) ≡ list_any (λ entry. keeps (id_of entry)) rest → list_any (λ entry. keeps (id_of entry)) (cond d (a ∷ filter (λ entry. keeps (id_of entry)) rest) (filter (λ entry. keeps (id_of entry)) rest)) ≡ (keeps (id_of a) || list_any (λ entry. keeps (id_of entry)) rest)
    by true k ih = ap (λ b. b || list_any (λ entry. keeps (id_of entry)) (filter (λ entry. keeps (id_of entry)) rest)) k ∙ sym (ap (λ b. b || list_any (λ entry. keeps (id_of entry)) rest) k)
    by false k ih = ih ∙ sym (ap (λ b. b || list_any (λ entry. keeps (id_of entry)) rest) k)

-- ---- faults, field by field

next_none : (code : Option ℕ) (id : List ℕ) (rest : Option AnswerFault) → or_next code id rest ≡ None → (code ≡ None) × (rest ≡ None)
next_none None id rest e = (refl, e)
next_none (Some c) id rest e = absurd cc

unknown_none : (o : Option (List ℕ)) (rest : Option AnswerFault) → unknown_or o rest ≡ None → (o ≡ None) × (rest ≡ None)
unknown_none None rest e = (refl, e)
unknown_none (Some id) rest e = absurd cc

-- the fault of each field that is looked at, over two looks
abbrev TurnContext : (Field → Bool) → Look → Bool → Bool → Field → Option ℕ
TurnContext looked look marked shown f = cond (looked f) (field_fault shown marked f (look f.id)) None

abbrev length_same : List Field → List Bool → Bool
length_same [] [] = true
length_same [] (t ∷ ts) = false
length_same (f ∷ fs) [] = false
length_same (f ∷ fs) (t ∷ ts) = length_same fs ts

-- no field has a fault where none had one before
no_faults : (looked before_looked : Field → Bool) (look before : Look) (marked was : Bool) (fs : List Field) (ss ts : List Bool) →
    ((k : ℕ) (f : Field) → slice_get fs k ≡ Some f → TurnContext before_looked before was (get_or ts k false) f ≡ None → TurnContext looked look marked (get_or ss k false) f ≡ None) →
    length_same fs ts ≡ true → first_fault before_looked before was ts fs ≡ None → first_fault looked look marked ss fs ≡ None
no_faults looked before_looked look before marked was fs [] ts up same none = refl
no_faults looked before_looked look before marked was [] (s ∷ ss) ts up same none = refl
no_faults looked before_looked look before marked was (f ∷ fs) (s ∷ ss) [] up same none = absurd cc
no_faults looked before_looked look before marked was (f ∷ fs) (s ∷ ss) (t ∷ ts) up same none =
    let parts = next_none (TurnContext before_looked before was t f) f.id (first_fault before_looked before was ts fs) none in
    ap (λ o. or_next o f.id (first_fault looked look marked ss fs)) (up zero f refl parts.0)
    ∙ no_faults looked before_looked look before marked was fs ss ts (λ k g e. up (suc k) g e) same parts.1

shown_length : (look : Look) (earlier fs : List Field) → length_same fs (shown_from look earlier fs) ≡ true
shown_length look earlier [] = refl
shown_length look earlier (f ∷ fs) = shown_length look (f ∷ earlier) fs

got_held : (fs : List Field) (k : ℕ) (f : Field) → slice_get fs k ≡ Some f → Held f fs
got_held [] k f e = absurd cc
got_held (g ∷ fs) zero f e = inl (let same : g ≡ f = cc in sym same)
got_held (g ∷ fs) (suc k) f e = inr (got_held fs k f e)

-- an identity field without an answer is not missed where there is no mark
quiet : (s r : Bool) → cond (s && r && (not true || false)) (Some MISSING) None ≡ None
quiet true true = refl
quiet true false = refl
quiet false r = refl

module _ (form : Form) (good : is_good form ≡ true) (answers : Answered) (valid : answers_fault form answers ≡ None) where
  fields : List Field
  fields = fields_of form.steps

  looked : Look
  looked = answer_to answers

  valid_parts : (first_without (is_known form) answers ≡ None) × (first_fault (λ f. true) (answer_to answers) (is_marked form answers) (all_shown (answer_to answers) (fields_of form.steps)) (fields_of form.steps) ≡ None)
  valid_parts = unknown_none _ _ valid

  knows : (k : ℕ) (f : Field) → slice_get (fields_of form.steps) k ≡ Some f → is_identity form f.id ≡ f.identity
  knows k f e = ap (λ o. option_map_or (λ (x : Field). x.identity) o false) (found_own [] (fields_of form.steps) f (good_parts form good).distinct (got_held (fields_of form.steps) k f e))

  shown_same : (k : ℕ) (f : Field) → slice_get (fields_of form.steps) k ≡ Some f → f.identity ≡ false → get_or (all_shown (answer_to answers) (fields_of form.steps)) k false ≡ get_or (all_shown (answer_to (public_of form answers)) (fields_of form.steps)) k false
  shown_same k f e public = public-same (answer_to answers) (answer_to (public_of form answers)) (fields_of form.steps) (λ id i. public-answers form answers id i) (good_parts form good).in_time (good_parts form good).unsealed k f e public

  -- the public answers are valid by themselves
  pub public_valid : answers_fault form (public_of form answers) ≡ None
  public_valid =
      ap (λ o. unknown_or o (first_fault (λ f. true) (answer_to (public_of form answers)) (is_marked form (public_of form answers)) (all_shown (answer_to (public_of form answers)) (fields_of form.steps)) (fields_of form.steps))) (kept_known (is_known form) (λ id. not (is_identity form id)) answers valid_parts.0)
      ∙ no_faults (λ f. true) (λ f. true) (answer_to (public_of form answers)) (answer_to answers) (is_marked form (public_of form answers)) (is_marked form answers) (fields_of form.steps) (all_shown (answer_to (public_of form answers)) (fields_of form.steps)) (all_shown (answer_to answers) (fields_of form.steps))
      (λ k f e none. by k f e (f.identity) refl none) (shown_length (answer_to answers) [] (fields_of form.steps)) valid_parts.1
    where
      m : Bool
      m = is_marked form answers

      open_field : (s w v : Bool) (f : Field) (o : Option Given) → f.identity ≡ false → field_fault s w f o ≡ field_fault s v f o
      open_field s w v f None public = ap (λ i. cond (s && f.required && (not i || w)) (Some MISSING) None) public ∙ sym (ap (λ i. cond (s && f.required && (not i || v)) (Some MISSING) None) public)
      open_field s w v f (Some x) public = refl

      by : (k : ℕ) (f : Field) → slice_get (fields_of form.steps) k ≡ Some f → (b : Bool) → f.identity ≡ b → field_fault (get_or (all_shown (answer_to answers) (fields_of form.steps)) k false) m f (answer_to answers f.id) ≡ None →
          field_fault (get_or (all_shown (answer_to (public_of form answers)) (fields_of form.steps)) k false) (is_marked form (public_of form answers)) f (answer_to (public_of form answers) f.id) ≡ None
      by k f e true is none =
          let s : Bool = get_or (all_shown (answer_to (public_of form answers)) (fields_of form.steps)) k false in
          ap (field_fault s (is_marked form (public_of form answers)) f) (public_none form answers f.id (knows k f e ∙ is))
          ∙ (ap (λ w. cond (s && f.required && (not f.identity || w)) (Some MISSING) None) (public_unmarked form answers)
          ∙ (ap (λ i. cond (s && f.required && (not i || false)) (Some MISSING) None) is ∙ quiet s f.required))
      by k f e false is none =
          ap (λ s. field_fault s (is_marked form (public_of form answers)) f (answer_to (public_of form answers) f.id)) (sym (shown_same k f e is))
          ∙ (ap (field_fault (get_or (all_shown (answer_to answers) (fields_of form.steps)) k false) (is_marked form (public_of form answers)) f) (sym (public-answers form answers f.id (knows k f e ∙ is)))
          ∙ (open_field (get_or (all_shown (answer_to answers) (fields_of form.steps)) k false) (is_marked form (public_of form answers)) m f (answer_to answers f.id) is ∙ none))

  same_looks : all_shown (answer_of_both (public_of form answers) (sealed_of form answers)) (fields_of form.steps) ≡ all_shown (answer_to answers) (fields_of form.steps)
  same_looks = λ i. all_shown (λ id. both_parts form answers id i) (fields_of form.steps)

  -- and the identity answers are valid after them
  pub sealed_valid : identity_fault form (public_of form answers) (sealed_of form answers) ≡ None
  sealed_valid =
      ap (λ o. unknown_or o (first_fault (λ f. f.identity) (answer_to (sealed_of form answers)) (is_marked form (sealed_of form answers)) (all_shown (answer_of_both (public_of form answers) (sealed_of form answers)) (fields_of form.steps)) (fields_of form.steps))) (all_kept (is_identity form) answers)
      ∙ no_faults (λ f. f.identity) (λ f. true) (answer_to (sealed_of form answers)) (answer_to answers) (is_marked form (sealed_of form answers)) (is_marked form answers) (fields_of form.steps) (all_shown (answer_of_both (public_of form answers) (sealed_of form answers)) (fields_of form.steps)) (all_shown (answer_to answers) (fields_of form.steps))
      (λ k f e none. by k f e (f.identity) refl none) (shown_length (answer_to answers) [] (fields_of form.steps)) valid_parts.1
    where
      by : (k : ℕ) (f : Field) → slice_get (fields_of form.steps) k ≡ Some f → (b : Bool) → f.identity ≡ b → field_fault (get_or (all_shown (answer_to answers) (fields_of form.steps)) k false) (is_marked form answers) f (answer_to answers f.id) ≡ None →
          cond b (field_fault (get_or (all_shown (answer_of_both (public_of form answers) (sealed_of form answers)) (fields_of form.steps)) k false) (is_marked form (sealed_of form answers)) f (answer_to (sealed_of form answers) f.id)) None ≡ None
      by k f e false is none = refl
      by k f e true is none =
          ap (λ ss. field_fault (get_or ss k false) (is_marked form (sealed_of form answers)) f (answer_to (sealed_of form answers) f.id)) same_looks
          ∙ (ap (λ w. field_fault (get_or (all_shown (answer_to answers) (fields_of form.steps)) k false) w f (answer_to (sealed_of form answers) f.id)) (all_marked (is_identity form) answers)
          ∙ (ap (field_fault (get_or (all_shown (answer_to answers) (fields_of form.steps)) k false) (is_marked form answers) f) (sealed_same form answers f.id (knows k f e ∙ is)) ∙ none))

-- marked answers have identity answers
pub some_sealed : (form : Form) (answers : Answered) → is_marked form answers ≡ true → (length (sealed_of form answers) == 0) ≡ false
some_sealed form [] e = absurd cc
some_sealed form (a ∷ rest) e = by (is_identity form (id_of a)) e (some_sealed form rest)
  where
    by : (b : Bool) → (b || is_marked form rest) ≡ true → (is_marked form rest ≡ true → (length (sealed_of form rest) == 0) ≡ false) → (length (cond b (a ∷ sealed_of form rest) (sealed_of form rest)) == 0) ≡ false
    by true f ih = grind (arith, nat_tests)
    by false f ih = ih f
