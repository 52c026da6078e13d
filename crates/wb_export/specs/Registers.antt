-- A user's register: a line for each live report that the user reads.
use Rattle.std.specs.Prelude.{ℕ, ℤ, if◌then◌else◌, List, [], ◌∷◌, map, filter, Option, Some, None, codes, decimal}
use Rattle.wb_base.specs.DateTexts.{date_text}
use Rattle.wb_model.specs.Names.{status_name}
use Rattle.wb_model.specs.Tables.{Case, Registry, is_live}
use Rattle.wb_model.specs.Trails.{context, label, status, received, ack_due, acknowledged, feedback_due, expires, has_identity}
use Rattle.wb_model.specs.ViewRows.{readable}
use Rattle.wb_export.specs.Csv.{CsvLine, csv_text}

-- a day that may be missing is empty then
abbrev pub day_field : Option ℤ → List ℕ
day_field None = []
day_field (Some day) = date_text day

-- of identity answers, whether there are any
abbrev pub identity_field : Case → List ℕ
identity_field c = if has_identity c.trail then codes "sealed" else codes "none"

abbrev pub register_header : CsvLine
register_header = codes "number" ∷ codes "context" ∷ codes "label" ∷ codes "status" ∷ codes "received" ∷ codes "ack_due" ∷ codes "acknowledged" ∷ codes "feedback_due" ∷ codes "expires" ∷ codes "identity" ∷ []

abbrev pub register_line : Case → CsvLine
register_line c =
    decimal c.number ∷
    decimal (context c.trail) ∷
    label c.trail ∷
    status_name (status c.trail) ∷
    date_text (received c.trail) ∷
    date_text (ack_due c.trail) ∷
    day_field (acknowledged c.trail) ∷
    date_text (feedback_due c.trail) ∷
    date_text (expires c.trail) ∷
    identity_field c ∷ []

-- the reports in a user's register at a time: those that are live and that the user reads, in the order in which they stand, which is that of their
-- numbers where the tables are those of kept rows
abbrev pub registered : Registry → ℕ → ℕ → List Case → List Case
registered registry now user cases = readable user (filter (is_live registry.settings now) cases)

abbrev pub register_text : Registry → ℕ → ℕ → List Case → List ℕ
register_text registry now user cases = csv_text (register_header ∷ map register_line (registered registry now user cases))
