-- The bodies that list reports: those that a user reads, what is due of them, and all requests for an identity.
use Rattle.std.specs.Prelude.{ℕ, List, [], ◌∷◌, ℤ, int_lt, codes}
use Rattle.serde_json.specs.Data.{Data, boolean, string}
use Rattle.wb_model.specs.declared.view.Listed.{Listed}
use Rattle.wb_model.specs.declared.view.Due.{Due}
use Rattle.wb_model.specs.declared.view.DueKind.{DueKind}
use Rattle.wb_model.specs.declared.view.DueKind.TheVariants as kinds
use Rattle.wb_model.specs.declared.view.Custodied.{Custodied}
use Rattle.wb_model.specs.Names.{status_name, state_name}
use Rattle.wb_model.specs.Json.{object_of, list_of, whole, date, or_null}

-- ---- the list view

abbrev pub listed_data : Listed → Data
listed_data row = object_of (
    (codes "ack_due", date row.ack_due) ∷
    (codes "context", whole row.context) ∷
    (codes "expires", date row.expires) ∷
    (codes "label", string row.label) ∷
    (codes "number", whole row.number) ∷
    (codes "received", date row.received) ∷
    (codes "status", string (status_name row.status)) ∷ [])

unfoldable pub list_view : List Listed → Data
list_view rows = object_of ((codes "reports", list_of listed_data rows) ∷ [])

-- ---- the due view

abbrev pub kind_name : DueKind → List ℕ
kind_name kinds.Ack = codes "ack"
kind_name kinds.Feedback = codes "feedback"

abbrev pub due_data : ℤ → Due → Data
due_data today row = object_of (
    (codes "day", date row.day) ∷
    (codes "kind", string (kind_name row.kind)) ∷
    (codes "number", whole row.number) ∷
    (codes "over", boolean (int_lt row.day today)) ∷ [])

-- the rows in their order, and the tenant's day
unfoldable pub due_view : List Due → ℤ → Data
due_view rows today = object_of (
    (codes "due", list_of (due_data today) rows) ∷
    (codes "today", date today) ∷ [])

-- ---- the custody view

abbrev pub custodied_data : Custodied → Data
custodied_data row = object_of (
    (codes "by", whole row.by) ∷
    (codes "effective", or_null whole row.effective) ∷
    (codes "id", whole row.id) ∷
    (codes "number", whole row.number) ∷
    (codes "reason", string row.reason) ∷
    (codes "state", string (state_name row.state)) ∷ [])

unfoldable pub custody_view : List Custodied → Data
custody_view rows = object_of ((codes "requests", list_of custodied_data rows) ∷ [])
