-- Answers that are read from an object's members, in the order of their keys.
use Rattle.std.proofs.Common.{◌≡◌, ℕ, List, [], ◌∷◌, ◌++◌, find, Option, Some, None, option_map, option_and_then, String, string_bytes, refl, sym, ap, ◌∙◌, append_assoc, append-nil, subst}
use Rattle.std.specs.List.{AllByRecursion}
use Rattle.std.specs.List.Sorted.{IsStrictlySortedBy}
use Rattle.std.specs.Ordering.{nat_cmp}
use Rattle.std.specs.Cmp.Lexicographic.{slice_cmp}
use Rattle.std.specs.declared.cmp.Ordering.TheVariants.{Less}
use Rattle.std.specs.declared.alloc.Global.{Global}
use Rattle.std.specs.Map.{keys_of}
use Rattle.std.specs.String.{string_cmp}
use Rattle.std.proofs.lemmas.Map.Keys.{sorted_head, sorted_tail}
use Rattle.serde_json.specs.View.{view, members_view}
use Rattle.serde_json.specs.declared.value.Value.{Value}
use Rattle.wb_list.specs.Keyed.{has_key, insert_item}
use Rattle.wb_base.specs.declared.answers.Given.{Given}
use Rattle.wb_base.specs.AnswerList.{Answered, id_of, answer_to}
use Rattle.wb_base.proofs.AnswerLemmas.{answer-found}
use Rattle.wb_model.specs.Bodies.{answer, with_entry, entries}
use Rattle.wb_json.specs.Entries.{AreBelow}

abbrev pub Entry : Type 0
Entry = String Global × Value

-- the ids are below each key that is left
abbrev pub AreBelowAll : Answered → List Entry → Type 0
AreBelowAll answers rest = AllByRecursion (λ e. AreBelow answers (string_bytes e.0)) rest

pub insert_last : (answers : Answered) (key : List ℕ) (given : Given) → AreBelow answers key → insert_item (slice_cmp nat_cmp) id_of answers (key, given) ≡ answers ++ (key, given) ∷ []
insert_last [] key given below = refl
insert_last (a ∷ answers) key given below = rw below.0 (ap (λ l. a ∷ l) (insert_last answers key given below.1))

found_nowhere : (answers : Answered) (key : List ℕ) → AreBelow answers key → find (has_key (slice_cmp nat_cmp) id_of key) answers ≡ None
found_nowhere [] key below = refl
found_nowhere (a ∷ answers) key below = rw below.0 (found_nowhere answers key below.1)

pub absent : (answers : Answered) (key : List ℕ) → AreBelow answers key → answer_to answers key ≡ None
absent answers key below = answer-found answers key ∙ ap (option_map (λ (entry : List ℕ × Given). entry.1)) (found_nowhere answers key below)

below_more : (answers : Answered) (id : List ℕ) (given : Given) (key : List ℕ) → AreBelow answers key → slice_cmp nat_cmp id key ≡ Less → AreBelow (answers ++ (id, given) ∷ []) key
below_more [] id given key below less = (less, tt)
below_more (a ∷ answers) id given key below less = (below.0, below_more answers id given key below.1 less)

-- one more answer, or none, whose id is below the keys that are left
below_pushed : (answers : Answered) (id : List ℕ) (given : Option Given) (rest : List Entry) → AreBelowAll answers rest → AllByRecursion (λ key. slice_cmp nat_cmp id (string_bytes key) ≡ Less) (keys_of rest)
    → AreBelowAll (answers ++ with_entry id given []) rest
below_pushed answers id given [] below less = tt
below_pushed answers id None (e ∷ rest) below less = subst (λ l. AreBelowAll l (e ∷ rest)) (sym (append-nil answers)) below
below_pushed answers id (Some given) (e ∷ rest) below less = (below_more answers id given (string_bytes e.0) below.0 less.0, below_pushed answers id (Some given) rest below.1 less.1)

pub below_none : (rest : List Entry) → AreBelowAll [] rest
below_none [] = tt
below_none (e ∷ rest) = (tt, below_none rest)

-- what the rest gives after it
pushed : (answers : Answered) (id : List ℕ) (given : Option Given) (rest : Option Answered)
    → option_map (λ es. answers ++ es) (option_map (with_entry id given) rest) ≡ option_map (λ es. (answers ++ with_entry id given []) ++ es) rest
pushed answers id given None = refl
pushed answers id None (Some es) = ap (λ l. Some (l ++ es)) (sym (append-nil answers))
pushed answers id (Some given) (Some es) = ap Some (sym (append_assoc answers ((id, given) ∷ []) es))

pub nothing_before : (rest : Option Answered) → rest ≡ option_map (λ es. [] ++ es) rest
nothing_before None = refl
nothing_before (Some es) = refl

-- ---- a step over one member

pub entries_step : (all : Option Answered) (answers new : Answered) (e : Entry) (left rest : List Entry) (given : Option Given) → left ≡ e ∷ rest → answer (view e.1) ≡ Some given
    → new ≡ answers ++ with_entry (string_bytes e.0) given [] → all ≡ option_map (λ es. answers ++ es) (entries (members_view left)) → all ≡ option_map (λ es. new ++ es) (entries (members_view rest))
entries_step all answers new e left rest given steps is grown so_far =
    let whole = so_far ∙ ap (λ l. option_map (λ es. answers ++ es) (entries (members_view l))) steps in
    let here = whole ∙ ap (λ o. option_map (λ es. answers ++ es) (option_and_then (λ g. option_map (with_entry (string_bytes e.0) g) (entries (members_view rest))) o)) is in
    here ∙ pushed answers (string_bytes e.0) given (entries (members_view rest)) ∙ ap (λ a. option_map (λ es. a ++ es) (entries (members_view rest))) (sym grown)

pub below_step : (answers new : Answered) (e : Entry) (left rest : List Entry) (given : Option Given) → left ≡ e ∷ rest → new ≡ answers ++ with_entry (string_bytes e.0) given []
    → IsStrictlySortedBy string_cmp (keys_of left) → AreBelowAll answers left → AreBelowAll new rest
below_step answers new e left rest given steps grown ordered below =
    let sorted : IsStrictlySortedBy string_cmp (e.0 ∷ keys_of rest) = subst (λ l. IsStrictlySortedBy string_cmp (keys_of l)) steps ordered in
    let both : AreBelowAll answers (e ∷ rest) = subst (AreBelowAll answers) steps below in
    subst (λ a. AreBelowAll a rest) (sym grown) (below_pushed answers (string_bytes e.0) given rest both.1 (sorted_head string_cmp e.0 (keys_of rest) sorted))

pub ordered_step : (e : Entry) (left rest : List Entry) → left ≡ e ∷ rest → IsStrictlySortedBy string_cmp (keys_of left) → IsStrictlySortedBy string_cmp (keys_of rest)
ordered_step e left rest steps ordered =
    let sorted : IsStrictlySortedBy string_cmp (e.0 ∷ keys_of rest) = subst (λ l. IsStrictlySortedBy string_cmp (keys_of l)) steps ordered in
    sorted_tail string_cmp e.0 (keys_of rest) sorted
