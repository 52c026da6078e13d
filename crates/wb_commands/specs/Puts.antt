-- What a change has to keep.
use Rattle.std.specs.Prelude.{ℕ, ◌+◌, List, [], ◌∷◌, length, Option, Some, None}
use Rattle.wb_base.specs.AnswerList.{Answered}
use Rattle.wb_base.specs.declared.rows.Change.{Change as RowChange}
use Rattle.wb_base.specs.declared.rows.Change.TheVariants.{Put, DropReport}
use Rattle.wb_model.specs.declared.entry.Entry.{Entry}
use Rattle.wb_model.specs.declared.numbering.Numbering.{Numbering}
use Rattle.wb_model.specs.Rows.{row, numbering_data, entry_data}
use Rattle.wb_model.specs.Tables.{Case, report}
use Rattle.wb_rows.specs.Puts.{sealed_put}
use Rattle.wb_tables.specs.Kept.{PlainTenancy}
use Rattle.wb_commands.specs.declared.mutation.Mutation.{Mutation}
use Rattle.wb_commands.specs.declared.mutation.Mutation.TheVariants as planned

-- the rows of a report that begins with an entry: the numbering after its draw, the entry, and its identity answers
abbrev pub first_puts : ℕ → ℕ → Numbering → List Entry → Option Answered → List RowChange
first_puts t n numbering [] secret = []
first_puts t n numbering (entry ∷ es) secret = Put (row 2 t 0 0 (numbering_data numbering)) ∷ Put (row 6 t n 1 (entry_data entry)) ∷ sealed_put t n secret

-- the rows of one more entry on a report: the entry at the next place of the report's trail, and its identity answers
abbrev pub noted_puts : ℕ → ℕ → Entry → Option Answered → Option Case → List RowChange
noted_puts t n entry secret None = []
noted_puts t n entry secret (Some case) = Put (row 6 t n (length case.trail + 1) (entry_data entry)) ∷ sealed_put t n secret

-- what a change has to keep: rows that are put, or a report whose rows are dropped; of sessions nothing is kept
abbrev pub puts_of : PlainTenancy → Mutation → List RowChange
puts_of x (planned.Begins o) = first_puts x.id o.number o.numbering o.case.items o.secret
puts_of x (planned.Notes n) = noted_puts x.id n.number n.entry n.secret (report n.number x.plain.cases)
puts_of x (planned.Deletes n) = DropReport x.id n ∷ []
puts_of x (planned.Configures c) = Put c.row ∷ []
puts_of x _ = []
