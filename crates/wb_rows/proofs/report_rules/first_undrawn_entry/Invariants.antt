use Rattle.std.proofs.Common.{◌≡◌, drop}
use Rattle.wb_rows.specs.Blame.{first_breaking}
use Rattle.wb_rows.specs.Places.{entry_key}
use Rattle.wb_rows.specs.ReportRules.{is_drawn}
use Rattle.wb_rows.proofs.report_rules.first_undrawn_entry.Given as goal

-- what is left breaks the rule first where all does
abbrev pub invariant-loop-entry : goal.invariant-loop-entry
invariant-loop-entry l = first_breaking (λ x. is_drawn l.numberings x.tenant x.number) entry_key (drop l.entry-index l.entries) ≡ first_breaking (λ x. is_drawn l.numberings x.tenant x.number) entry_key l.entries
