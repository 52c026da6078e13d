-- What tables hold.
use Rattle.std.specs.Prelude.{ℕ, List, map, Option}
use Rattle.wb_base.specs.AnswerList.{Answered}
use Rattle.wb_custody.specs.SealedAnswers.{answers_of}
use Rattle.wb_row_codec.specs.declared.item.NumberingItem.{NumberingItem}
use Rattle.wb_model.specs.declared.registry.Lists.{Lists}
use Rattle.wb_rows.specs.Reports.{Report, case_report}
use Rattle.wb_rows.specs.declared.tables.Tables.{Tables}

-- the tables of all tenants
pub record Held : Type 0 where
  pub lists : Lists
  pub numberings : List NumberingItem
  pub reports : List Report
  pub sealed : ℕ → ℕ → Option Answered

-- what tables hold
abbrev pub held_by : Tables → Held
held_by t = record { lists = t.registry.lists; numberings = t.numberings; reports = map case_report t.cases; sealed = answers_of t.sealed.items }
