use Rattle.std.proofs.Common.{◌≡◌, drop, map}
use Rattle.wb_rows.specs.Blame.{first_breaking}
use Rattle.wb_rows.specs.Reports.{case_report}
use Rattle.wb_rows.specs.Places.{sealed_key}
use Rattle.wb_rows.specs.ReportRules.{is_right_seal}
use Rattle.wb_rows.proofs.report_rules.first_wrong_seal.Given as goal

-- what is left breaks the rule first where all does
abbrev pub invariant-loop-item : goal.invariant-loop-item
invariant-loop-item l = first_breaking (is_right_seal l.registry.lists (map case_report l.cases.items)) sealed_key (drop l.item-index l.sealed) ≡ first_breaking (is_right_seal l.registry.lists (map case_report l.cases.items)) sealed_key l.sealed
