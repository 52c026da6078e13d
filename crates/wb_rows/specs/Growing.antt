-- The reports that are read so far, and those of the entries that are left.
use Rattle.std.specs.Prelude.{◌≡◌, Bool, false, List, ◌++◌, Option, Some, None, Result, Ok, Err, map}
use Rattle.wb_base.specs.declared.rows.Key.{Key}
use Rattle.wb_row_codec.specs.declared.item.EntryItem.{EntryItem}
use Rattle.wb_model.specs.declared.registry.Lists.{Lists}
use Rattle.wb_rows.specs.declared.faults.RowFault.{RowFault}
use Rattle.wb_rows.specs.declared.faults.RowFault.TheVariants.{BadRow, BadSet, Memory}
use Rattle.wb_rows.specs.declared.open.Open.{Open}
use Rattle.wb_rows.specs.Reports.{Report, case_report}
use Rattle.wb_rows.specs.OpenReports.{report_of, IsOpen}
use Rattle.wb_rows.specs.TrailRule.{days, reports_after, reports_of}
use Rattle.wb_rows.specs.declared.cases.CaseItem.{CaseItem}

-- the reports of the one that is read so far, where there is one, and of the entries that are left
abbrev pub rest_of : Lists → Option Open → List EntryItem → Result (List Report) Key
rest_of lists None left = reports_of lists left
rest_of lists (Some o) left = reports_after lists (report_of o) left

-- reports after those that were read whole
abbrev pub with_all : List Report → Result (List Report) Key → Result (List Report) Key
with_all done (Ok rs) = Ok (done ++ rs)
with_all done (Err k) = Err k

-- the report that is being read is legal
abbrev pub IsOpenIn : Lists → Open → Type 0
IsOpenIn lists o = IsOpen (days lists o.tenant) o

abbrev pub AreReady : Lists → Option Open → Type 0
AreReady lists None = Unit {0}
AreReady lists (Some o) = IsOpenIn lists o

-- the rule of trails is blamed at a key where it is not kept, or memory was wanted
abbrev pub IsBlame : Bool → Key → RowFault → Type 0
IsBlame kept key (BadRow k) = ⊥
IsBlame kept key (BadSet rule k) = (kept ≡ false) × (rule ≡ 5) × (k ≡ key)
IsBlame kept key Memory = Unit {0}

-- the rule of trails is blamed at the key that is wanted, or memory was wanted
abbrev pub IsTrailFault : Result (List Report) Key → RowFault → Type 0
IsTrailFault wanted (BadRow k) = ⊥
IsTrailFault wanted (BadSet rule k) = (rule ≡ 5) × (wanted ≡ Err k)
IsTrailFault wanted Memory = Unit {0}

abbrev pub after_all : List CaseItem → Result (List Report) Key → Result (List Report) Key
after_all done rest = with_all (map case_report done) rest
