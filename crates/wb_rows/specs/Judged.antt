-- What a set of rows is read as: the tables, or the first fault.
use Rattle.std.specs.Prelude.{◌≡◌, List, [], ◌∷◌, Bool, if◌then◌else◌, Option, Some, None, Result, Ok, Err, map}
use Rattle.std.specs.Option.{option_or}
use Rattle.wb_base.specs.declared.form.Format.{Format}
use Rattle.wb_base.specs.declared.form.Format.TheVariants.{Plain, Weighed}
use Rattle.wb_base.specs.AnswerList.{is_text}
use Rattle.wb_base.specs.declared.rows.Key.{Key}
use Rattle.wb_base.specs.declared.rows.Row.{Row}
use Rattle.wb_custody.specs.SealedAnswers.{answers_of}
use Rattle.wb_row_codec.specs.declared.item.Item.{Item}
use Rattle.wb_row_codec.specs.Items.{is_key}
use Rattle.wb_model.specs.Rows.{format_row}
use Rattle.wb_rows.specs.declared.faults.RowFault.{RowFault}
use Rattle.wb_rows.specs.declared.faults.RowFault.TheVariants.{BadRow, BadSet}
use Rattle.wb_rows.specs.declared.items.ItemsByKind.{ItemsByKind}
use Rattle.wb_rows.specs.declared.report_rules.Blames.{Blames}
use Rattle.wb_rows.specs.Blame.{first_breaking, first_repeated, blamed}
use Rattle.wb_rows.specs.Reports.{Report, case_report}
use Rattle.wb_rows.specs.Held.{Held}
use Rattle.wb_rows.specs.KeptItems.{kept_of}
use Rattle.wb_rows.specs.ListRules.{list_fault}
use Rattle.wb_rows.specs.Places.{entry_key, numbering_key, sealed_key}
use Rattle.wb_rows.specs.ReadItems.{items_in}
use Rattle.wb_rows.specs.ReportRules.{is_right_entry, has_its_seal, is_right_seal, same_receipt, is_right_numbering, first_undrawn_in}
use Rattle.wb_rows.specs.TrailRule.{reports_of}
use Rattle.wb_rows.specs.declared.cases.CaseItem.{CaseItem}

-- the first row of rule 7: an entry, or identity answers, of a number that was not drawn
abbrev pub first_undrawn : ItemsByKind → Option Key
first_undrawn k = first_undrawn_in k.numberings k.entries k.sealed

-- the first row of rule 8: an entry without its identity answers, or identity answers without an entry, or that are not valid
abbrev pub first_unsealed : ItemsByKind → List Report → Option Key
first_unsealed k rs = option_or (first_breaking (has_its_seal k.sealed) entry_key k.entries) (first_breaking (is_right_seal k.lists rs) sealed_key k.sealed)

-- the first rows that break the rules that look at entries one by one
pub record AreBlames (k : ItemsByKind) (b : Blames) : Type 0 where
  pub wrong : b.wrong ≡ first_breaking (is_right_entry k.lists) entry_key k.entries
  pub undrawn : b.undrawn ≡ first_undrawn k
  pub unsealed : b.unsealed ≡ first_breaking (has_its_seal k.sealed) entry_key k.entries
  pub receipt : b.receipt ≡ first_repeated same_receipt entry_key k.entries
  pub numbering : b.numbering ≡ first_breaking (is_right_numbering k.entries) numbering_key k.numberings

-- the first of rules 6 to 10 that is broken, and the first row that breaks it
abbrev pub report_fault : ItemsByKind → List Report → Option RowFault
report_fault k rs =
    blamed 6 (first_breaking (is_right_entry k.lists) entry_key k.entries) (
    blamed 7 (first_undrawn k) (
    blamed 8 (first_unsealed k rs) (
    blamed 9 (first_repeated same_receipt entry_key k.entries) (
    blamed 10 (first_breaking (is_right_numbering k.entries) numbering_key k.numberings) None))))

-- what is held where no rule is broken
abbrev pub held : ItemsByKind → List Report → Held
held k rs = record { lists = k.lists; numberings = k.numberings; reports = rs; sealed = answers_of k.sealed }

-- a fault, or what comes after it
abbrev pub unless : Option RowFault → Result Held RowFault → Result Held RowFault
unless (Some fault) rest = Err fault
unless None rest = rest

abbrev pub judged_reports : ItemsByKind → Result (List Report) Key → Result Held RowFault
judged_reports k (Ok rs) = unless (report_fault k rs) (Ok (held k rs))
judged_reports k (Err key) = Err (BadSet 5 key)

abbrev pub judged_kept : List Row → ItemsByKind → Result Held RowFault
judged_kept rows k = unless (list_fault rows k.lists k.numberings) (judged_reports k (reports_of k.lists k.entries))

abbrev pub judged_items : List Row → Result (List Item) RowFault → Result Held RowFault
judged_items rows (Ok items) = judged_kept rows (kept_of items)
judged_items rows (Err fault) = Err fault

-- the tables of rows of a format but for the row that says it, where each row is good and the rules hold; or the first row that is not good, else the first rule that is broken and the first row that breaks it
abbrev pub judged_in : Format → List Row → Result Held RowFault
judged_in format rows = judged_items rows (items_in format rows)

-- the key of the row of the format
abbrev pub is_format_key : Key → Bool
is_format_key k = is_key k format_row.key

-- rows of which the first has the key of the format: of format 2 where it says so
abbrev pub judged_with : Row → List Row → Result Held RowFault
judged_with row rows = if is_text row.text format_row.text then judged_in Weighed rows else Err (BadRow row.key)

-- the tables of rows, of format 2 where there is the row of the format, and else of format 1
abbrev pub judged : List Row → Result Held RowFault
judged [] = judged_in Plain []
judged (row ∷ rows) = if is_format_key row.key then judged_with row rows else judged_in Plain (row ∷ rows)

-- the format of rows that are read
abbrev pub format_of : List Row → Format
format_of [] = Plain
format_of (row ∷ rows) = if is_format_key row.key then Weighed else Plain

-- rows of a format with the row that says it
abbrev pub with_format : Format → List Row → List Row
with_format Plain own = own
with_format Weighed own = format_row ∷ own

-- rows are of a format, and these are the others
pub record IsParted (rows : List Row) (format : Format) (own : List Row) : Type 0 where
  pub judged : judged rows ≡ judged_in format own
  pub stated : format_of rows ≡ format
  pub whole : with_format format own ≡ rows

-- the reports that were read of so many items are judged so
abbrev pub AreJudged : ItemsByKind → List CaseItem → Result Held RowFault → Type 0
AreJudged k cases r = judged_reports k (Ok (map case_report cases)) ≡ r
