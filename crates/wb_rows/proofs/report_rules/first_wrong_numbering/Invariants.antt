use Rattle.std.proofs.Common.{◌≡◌, drop}
use Rattle.wb_rows.specs.Blame.{first_breaking}
use Rattle.wb_rows.specs.Places.{numbering_key}
use Rattle.wb_rows.specs.ReportRules.{is_right_numbering}
use Rattle.wb_rows.proofs.report_rules.first_wrong_numbering.Given as goal

-- what is left breaks the rule first where all does
abbrev pub invariant-loop-item : goal.invariant-loop-item
invariant-loop-item l = first_breaking (is_right_numbering l.entries) numbering_key (drop l.item-index l.numberings) ≡ first_breaking (is_right_numbering l.entries) numbering_key l.numberings
