-- A kept report.
use Rattle.std.specs.Prelude.{ℕ, List}
use Rattle.wb_model.specs.declared.entry.Entry.{Entry}
use Rattle.wb_rows.specs.declared.cases.CaseItem.{CaseItem}

-- a report and its trail
pub record Report : Type 0 where
  pub tenant : ℕ
  pub number : ℕ
  pub trail : List Entry

abbrev pub case_report : CaseItem → Report
case_report x = record { tenant = x.tenant; number = x.number; trail = x.case.items }
