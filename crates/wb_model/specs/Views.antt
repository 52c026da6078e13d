-- The bodies that show one report: to its readers, to its reporter, and its identity answers.
use Rattle.std.specs.Prelude.{ℕ, not, if◌then◌else◌, List, [], ◌∷◌, filter, Option, codes}
use Rattle.serde_json.specs.Data.{Data, boolean, string}
use Rattle.wb_base.specs.AnswerList.{Answered}
use Rattle.wb_model.specs.declared.view.Custodied.{Custodied}
use Rattle.wb_model.specs.ViewRows.{custodied}
use Rattle.wb_model.specs.declared.entry.Entry.{Entry}
use Rattle.wb_model.specs.declared.registry.UserItem.{UserItem}
use Rattle.wb_model.specs.Names.{status_name, state_name}
use Rattle.wb_model.specs.Access.{requests, in_force}
use Rattle.wb_model.specs.Trails.{Remark, received, ack_due, form, version, answers, context, status, label, acknowledged, feedback_due, feedback_given, expires, readers, has_identity, dialogue}
use Rattle.wb_model.specs.Tables.{Case, disablings}
use Rattle.wb_model.specs.Json.{object_of, list_of, whole, date, or_null, answers_data}

-- ---- the recipient view

abbrev pub remark_data : Remark → Data
remark_data r = object_of (
    (codes "at", whole r.at) ∷
    (codes "from", string r.from) ∷
    (codes "internal", boolean r.internal) ∷
    (codes "kind", string r.kind) ∷
    (codes "text", string r.text) ∷
    (codes "user", or_null whole r.user) ∷ [])

-- a request of this report
abbrev pub request_data : Custodied → Data
request_data row = object_of (
    (codes "by", whole row.by) ∷
    (codes "effective", or_null whole row.effective) ∷
    (codes "id", whole row.id) ∷
    (codes "reason", string row.reason) ∷
    (codes "state", string (state_name row.state)) ∷ [])

-- `none` where no identity answer was given, `open` under a grant of this user in force, else `sealed`
abbrev pub identity_word : List UserItem → ℕ → ℕ → List Entry → List ℕ
identity_word users user now trail =
    if not (has_identity trail) then codes "none"
    else if in_force user (disablings user users) now trail then codes "open"
    else codes "sealed"

unfoldable pub recipient_view : List UserItem → ℕ → ℕ → Case → Data
recipient_view users user now case = let trail = case.trail in object_of (
    (codes "ack_due", date (ack_due trail)) ∷
    (codes "acknowledged", or_null date (acknowledged trail)) ∷
    (codes "answers", answers_data (answers trail)) ∷
    (codes "context", whole (context trail)) ∷
    (codes "dialogue", list_of remark_data (dialogue trail)) ∷
    (codes "expires", date (expires trail)) ∷
    (codes "feedback_due", date (feedback_due trail)) ∷
    (codes "feedback_given", boolean (feedback_given trail)) ∷
    (codes "form", whole (form trail)) ∷
    (codes "identity", string (identity_word users user now trail)) ∷
    (codes "label", string (label trail)) ∷
    (codes "number", whole case.number) ∷
    (codes "readers", list_of whole (readers trail)) ∷
    (codes "received", date (received trail)) ∷
    (codes "requests", list_of request_data (custodied users case.number (requests trail))) ∷
    (codes "status", string (status_name (status trail))) ∷
    (codes "version", whole (version trail)) ∷ [])

-- ---- the two views that show identity answers

abbrev pub own_remark_data : Remark → Data
own_remark_data r = object_of ((codes "at", whole r.at) ∷ (codes "from", string r.from) ∷ (codes "kind", string r.kind) ∷ (codes "text", string r.text) ∷ [])

unfoldable pub reporter_view : Case → Option Answered → Data
reporter_view case identity = let trail = case.trail in object_of (
    (codes "acknowledged", or_null date (acknowledged trail)) ∷
    (codes "answers", answers_data (answers trail)) ∷
    (codes "dialogue", list_of own_remark_data (filter (λ (r : Remark). not r.internal) (dialogue trail))) ∷
    (codes "expires", date (expires trail)) ∷
    (codes "feedback_due", date (feedback_due trail)) ∷
    (codes "form", whole (form trail)) ∷
    (codes "identity", or_null answers_data identity) ∷
    (codes "number", whole case.number) ∷
    (codes "received", date (received trail)) ∷
    (codes "status", string (status_name (status trail))) ∷
    (codes "version", whole (version trail)) ∷ [])

unfoldable pub identity_view : ℕ → Answered → Data
identity_view number answers = object_of ((codes "answers", answers_data answers) ∷ (codes "number", whole number) ∷ [])
