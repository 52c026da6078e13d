-- What is wrong with answers, and which of them are identity answers.
use Rattle.std.specs.Prelude.{ℕ, ◌==◌, ◌&&◌, ◌||◌, List, [], ◌∷◌, length, nat_lt, nat_le, not, filter, find, Bool, true, false, if◌then◌else◌, Option, Some, None, is_some, unsigned_abs}
use Rattle.std.specs.Option.{option_map_or}
use Rattle.std.specs.List.{list_all, list_any}
use Rattle.std.specs.Result.{result_ok}
use Rattle.base64.specs.Engines.{standard}
use Rattle.base64.specs.GeneralPurpose.{decode_of}
use Rattle.wb_base.specs.declared.faults.AnswerFault.{AnswerFault}
use Rattle.wb_base.specs.declared.faults.TheConstants.AnswerFault.{UNKNOWN, MISSING, HIDDEN, WRONG_KIND, TOO_LONG, NO_SUCH_OPTION}
use Rattle.wb_base.specs.declared.form.Form.{Form}
use Rattle.wb_base.specs.declared.form.Field.{Field}
use Rattle.wb_base.specs.declared.form.FieldKind.{FieldKind}
use Rattle.wb_base.specs.declared.form.FieldKind.TheVariants.{Text as TextKind, Choice as ChoiceKind, Multi as MultiKind, Date as DateKind, Check as CheckKind, Whole as WholeKind, File as FileKind}
use Rattle.wb_base.specs.declared.form.Choice.{Choice as FieldOption}
use Rattle.wb_base.specs.declared.answers.Given.{Given}
use Rattle.wb_base.specs.declared.answers.Given.TheVariants.{Text, List as Texts, Flag, Whole, File}
use Rattle.wb_base.specs.AnswerList.{Answered, answer_to, id_of, is_text}
use Rattle.wb_base.specs.DateTexts.{read_date}
use Rattle.wb_base.specs.FormFields.{fields_of, is_field, is_option}
use Rattle.wb_base.specs.ShownFields.{Look, all_shown}

-- ---- the fault of an answer to a kind

-- a text comes again
abbrev pub has_repeat : List (List ℕ) → Bool
has_repeat [] = false
has_repeat (t ∷ ts) = list_any (λ u. is_text u t) ts || has_repeat ts

abbrev pub options_fault : List FieldOption → List (List ℕ) → Option ℕ
options_fault options ts = if (length ts == 0) || has_repeat ts then Some WRONG_KIND
    else if list_all (λ t. list_any (is_option t) options) ts then None else Some NO_SUCH_OPTION

-- the bytes that a text in base64 (RFC 4648, section 4) stands for
unfoldable pub decoded : List ℕ → Option (List ℕ)
decoded content = result_ok (decode_of standard content)

abbrev pub size_fault : Option (List ℕ) → Option ℕ
size_fault None = Some WRONG_KIND
size_fault (Some bytes) = if nat_le (length bytes) 150_000 then None else Some TOO_LONG

abbrev pub file_fault : List ℕ → List ℕ → Option ℕ
file_fault name content = if nat_le 1 (length name) && nat_le (length name) 128 then size_fault (decoded content) else Some WRONG_KIND

-- the fault of an answer to a field that is shown
abbrev pub kind_fault : FieldKind → Given → Option ℕ
kind_fault (TextKind max) (Text t) = if nat_lt max (length t) then Some TOO_LONG else None
kind_fault (ChoiceKind options) (Text t) = if list_any (is_option t) options then None else Some NO_SUCH_OPTION
kind_fault (MultiKind options) (Texts ts) = options_fault options ts
kind_fault DateKind (Text t) = if is_some (read_date t) then None else Some WRONG_KIND
kind_fault CheckKind (Flag b) = None
kind_fault WholeKind (Whole z) = if nat_le (unsigned_abs z) 1_000_000_000_000 then None else Some WRONG_KIND
kind_fault FileKind (File name content) = file_fault name content
kind_fault _ _ = Some WRONG_KIND

-- ---- the fault of one field

-- a field that is not shown has no answer; one that is shown has a right one, or none where it is not required
abbrev pub field_fault : Bool → Bool → Field → Option Given → Option ℕ
field_fault shown marked f None = if shown && f.required && (not f.identity || marked) then Some MISSING else None
field_fault shown marked f (Some given) = if shown then kind_fault f.kind given else Some HIDDEN

-- ---- identity fields and identity answers

-- the id is an identity field's
abbrev pub is_identity : Form → List ℕ → Bool
is_identity form id = option_map_or (λ f. f.identity) (find (is_field id) (fields_of form.steps)) false

-- the answers that tell no identity
abbrev pub public_of : Form → Answered → Answered
public_of form answers = filter (λ entry. not (is_identity form (id_of entry))) answers

-- the identity answers
abbrev pub sealed_of : Form → Answered → Answered
sealed_of form answers = filter (λ entry. is_identity form (id_of entry)) answers

-- an identity field is answered
abbrev pub is_marked : Form → Answered → Bool
is_marked form answers = list_any (λ entry. is_identity form (id_of entry)) answers

-- ---- the fault of answers

-- the fault of a field, or what comes after it
abbrev pub or_next : Option ℕ → List ℕ → Option AnswerFault → Option AnswerFault
or_next None id rest = rest
or_next (Some code) id rest = Some (record { code = code; field = id })

-- the first field in form order, of those that are looked at, that has a fault
abbrev pub first_fault : (Field → Bool) → Look → Bool → List Bool → List Field → Option AnswerFault
first_fault looked_at look marked [] fs = None
first_fault looked_at look marked (shown ∷ rest) [] = None
first_fault looked_at look marked (shown ∷ rest) (f ∷ fs) =
    or_next (if looked_at f then field_fault shown marked f (look f.id) else None) f.id (first_fault looked_at look marked rest fs)

-- the first id that does not pass; answers ascend, so it is the least
abbrev pub first_without : (List ℕ → Bool) → Answered → Option (List ℕ)
first_without test [] = None
first_without test (entry ∷ entries) = if test (id_of entry) then first_without test entries else Some (id_of entry)

-- an id that should not be there, or what comes after it
abbrev pub unknown_or : Option (List ℕ) → Option AnswerFault → Option AnswerFault
unknown_or None rest = rest
unknown_or (Some id) rest = Some (record { code = UNKNOWN; field = id })

-- the id is a field's
abbrev pub is_known : Form → List ℕ → Bool
is_known form id = is_some (find (is_field id) (fields_of form.steps))

-- what is wrong with answers: the least unknown id, else the first field that has a fault
abbrev pub answers_fault : Form → Answered → Option AnswerFault
answers_fault form answers = let look = answer_to answers in
    unknown_or (first_without (is_known form) answers)
    (first_fault (λ f. true) look (is_marked form answers) (all_shown look (fields_of form.steps)) (fields_of form.steps))

-- the first of two answers that is there
abbrev pub first_some : Option Given → Option Given → Option Given
first_some None other = other
first_some (Some answer) other = Some answer

-- what was given for a field in either of two lists
abbrev pub answer_of_both : Answered → Answered → Look
answer_of_both public given id = first_some (answer_to public id) (answer_to given id)

-- what is wrong with identity answers that are given after public ones: the least id that is no identity field's,
-- else the first identity field that has a fault, where conditions are judged over both lists
abbrev pub identity_fault : Form → Answered → Answered → Option AnswerFault
identity_fault form public given =
    unknown_or (first_without (is_identity form) given)
    (first_fault (λ f. f.identity) (answer_to given) (is_marked form given) (all_shown (answer_of_both public given) (fields_of form.steps)) (fields_of form.steps))
