-- The terms that stand of a report (Directive (EU) 2019/1937, Articles 9(1) and 18(1)).
use Rattle.std.specs.Prelude.{ℕ, Bool, ◌||◌, if◌then◌else◌, List, Option, Some, None, is_some}
use Rattle.wb_base.specs.declared.kind.Kind.TheVariants as kinds
use Rattle.wb_model.specs.declared.entry.Entry.{Entry}
use Rattle.wb_model.specs.Trails.{is_closed, acknowledged, ack_due, feedback_given, feedback_due, expires}
use Rattle.wb_terms.specs.declared.term_index.Term.{Term}

-- a term stands where the report is not closed and nothing has settled it
abbrev pub open_term : List Entry → Bool → Term → Option Term
open_term trail settled term = if is_closed trail || settled then None else Some term

-- the acknowledgement, where there was none
abbrev pub ack_term : ℕ → ℕ → List Entry → Option Term
ack_term tenant number trail = open_term trail (is_some (acknowledged trail)) (record { tenant = tenant; day = ack_due trail; number = number; kind = kinds.Ack })

-- feedback, where none was given
abbrev pub feedback_term : ℕ → ℕ → List Entry → Option Term
feedback_term tenant number trail = open_term trail (feedback_given trail) (record { tenant = tenant; day = feedback_due trail; number = number; kind = kinds.Feedback })

-- the report goes on a day, whatever was done
abbrev pub expiry_term : ℕ → ℕ → List Entry → Term
expiry_term tenant number trail = record { tenant = tenant; day = expires trail; number = number; kind = kinds.Expiry }
