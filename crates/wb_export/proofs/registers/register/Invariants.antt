use Rattle.std.proofs.Common.{◌≡◌, ◌++◌, ◌∷◌, List, Some, drop}
use Rattle.wb_export.specs.Csv.{HasWritten, CsvLine}
use Rattle.wb_export.specs.Registers.{register_header}
use Rattle.wb_export.proofs.Entries.{lines_of}
use Rattle.wb_export.proofs.registers.register.Given as goal

abbrev pub invariant-loop-item : goal.invariant-loop-item
invariant-loop-item l =
    let all = lines_of l.tenant l.today l.user in
    (done : List CsvLine) × HasWritten (λ v. Some v.items) l.lines (register_header ∷ done) × (done ++ all (drop l.item-index l.tables.cases) ≡ all l.tables.cases)
