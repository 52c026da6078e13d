-- Refusals, each with its status, its code and what its body has besides.
use Rattle.std.specs.Prelude.{ℕ, ℤ, List, [], ◌∷◌, codes}
use Rattle.serde_json.specs.Data.{Data, null, string}
use Rattle.wb_base.specs.declared.faults.AnswerFault.{AnswerFault}
use Rattle.wb_base.specs.declared.faults.FormFault.{FormFault}
use Rattle.wb_base.specs.declared.faults.TheConstants.FormFault as form_codes
use Rattle.wb_base.specs.declared.faults.TheConstants.AnswerFault.{UNKNOWN, MISSING, HIDDEN, WRONG_KIND, TOO_LONG}
use Rattle.std.specs.Prelude.{◌==◌, ◌&&◌, if◌then◌else◌, Bool}
use Rattle.wb_base.specs.AnswerList.{is_text}
use Rattle.wb_model.specs.declared.body.Told.{Told}
use Rattle.wb_model.specs.Json.{told, object_of, whole, date}

-- what the body of a refusal has besides its code
pub data Detail : Type 0 where
  Bare : Detail
  -- the id of the field at fault
  Field : List ℕ → Detail
  -- what is kept: nothing, a number, a day, or a word
  Null : Detail
  Whole : ℕ → Detail
  Date : ℤ → Detail
  Word : List ℕ → Detail

-- the body of a refusal: its code, and the field at fault or what is kept
unfoldable pub refusal : List ℕ → Detail → Data
refusal code Bare = object_of ((codes "code", string code) ∷ [])
refusal code (Field id) = object_of ((codes "code", string code) ∷ (codes "field", string id) ∷ [])
refusal code Null = object_of ((codes "code", string code) ∷ (codes "kept", null) ∷ [])
refusal code (Whole number) = object_of ((codes "code", string code) ∷ (codes "kept", whole number) ∷ [])
refusal code (Date day) = object_of ((codes "code", string code) ∷ (codes "kept", date day) ∷ [])
refusal code (Word word) = object_of ((codes "code", string code) ∷ (codes "kept", string word) ∷ [])

abbrev pub refused : ℕ → List ℕ → Detail → Told
refused status code detail = told status (refusal code detail)

unfoldable pub not_found : Told
not_found = refused 404 (codes "not_found") Bare

unfoldable pub no_session : Told
no_session = refused 401 (codes "no_session") Bare

unfoldable pub wrong_role : Told
wrong_role = refused 403 (codes "role") Bare

unfoldable pub wrong_right : Told
wrong_right = refused 403 (codes "right") Bare

-- no user has this name and password, or no live report this receipt
unfoldable pub bad_login : Told
bad_login = refused 401 (codes "bad_login") Bare

-- the keeper failed
unfoldable pub keeper_failed : Told
keeper_failed = refused 503 (codes "keeper") Bare

unfoldable pub no_memory : Told
no_memory = refused 507 (codes "no_memory") Bare

-- the tenant's last number is drawn
unfoldable pub numbers_spent : Told
numbers_spent = refused 429 (codes "numbers_spent") (Whole 4_294_967_295)

-- so many numbers were drawn on this day
unfoldable pub quota_spent : ℕ → Told
quota_spent quota = refused 429 (codes "quota") (Whole quota)

-- a live report has the receipt that was drawn
unfoldable pub receipt_taken : Told
receipt_taken = refused 409 (codes "receipt_taken") Null

-- the host's last turn is made: what a step answers then in place of a turn, and changes nothing
unfoldable pub turns_spent : Told
turns_spent = refused 429 (codes "turns_spent") (Whole 1_000_000_000_000_000)

-- a reply is that
abbrev pub is_turns_spent : Told → Bool
is_turns_spent told = (told.status == 429) && is_text told.body turns_spent.body

abbrev pub answer_code : ℕ → List ℕ
answer_code code =
    if code == UNKNOWN then codes "unknown"
    else if code == MISSING then codes "missing"
    else if code == HIDDEN then codes "hidden"
    else if code == WRONG_KIND then codes "wrong_kind"
    else if code == TOO_LONG then codes "too_long"
    else codes "no_such_option"

abbrev pub form_code : ℕ → List ℕ
form_code code =
    if code == form_codes.SHAPE then codes "form_shape"
    else if code == form_codes.DOUBLE_ID then codes "double_id"
    else if code == form_codes.LATE_TRIGGER then codes "late_trigger"
    else if code == form_codes.SEALED_TRIGGER then codes "sealed_trigger"
    else if code == form_codes.NO_OPTION then codes "no_option"
    else codes "too_many"

-- a form is refused for a fault
unfoldable pub form_faulty : FormFault → Told
form_faulty fault = refused 422 (form_code fault.code) (Field fault.field)

-- answers are refused for a fault
unfoldable pub faulty : AnswerFault → Told
faulty fault = refused 422 (answer_code fault.code) (Field fault.field)
