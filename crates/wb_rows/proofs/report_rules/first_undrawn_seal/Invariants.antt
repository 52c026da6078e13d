use Rattle.std.proofs.Common.{◌≡◌, drop}
use Rattle.wb_rows.specs.Blame.{first_breaking}
use Rattle.wb_rows.specs.Places.{sealed_key}
use Rattle.wb_rows.specs.ReportRules.{is_drawn}
use Rattle.wb_rows.proofs.report_rules.first_undrawn_seal.Given as goal

-- what is left breaks the rule first where all does
abbrev pub invariant-loop-item : goal.invariant-loop-item
invariant-loop-item l = first_breaking (λ x. is_drawn l.numberings x.tenant x.number) sealed_key (drop l.item-index l.sealed) ≡ first_breaking (λ x. is_drawn l.numberings x.tenant x.number) sealed_key l.sealed
