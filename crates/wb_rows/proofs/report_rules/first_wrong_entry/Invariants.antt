use Rattle.std.proofs.Common.{◌≡◌, drop}
use Rattle.wb_rows.specs.Blame.{first_breaking}
use Rattle.wb_rows.specs.Places.{entry_key}
use Rattle.wb_rows.specs.ReportRules.{is_right_entry}
use Rattle.wb_rows.proofs.report_rules.first_wrong_entry.Given as goal

-- what is left breaks the rule first where all does
abbrev pub invariant-loop-entry : goal.invariant-loop-entry
invariant-loop-entry l = first_breaking (is_right_entry l.registry.lists) entry_key (drop l.entry-index l.entries) ≡ first_breaking (is_right_entry l.registry.lists) entry_key l.entries
