use Rattle.std.proofs.Common.{◌≡◌, drop, take}
use Rattle.wb_base.specs.FormFaults.{first_by, first_from}
use Rattle.wb_form.proofs.rules.first_by_rule.Given as goal

abbrev pub invariant-loop-at : goal.invariant-loop-at
invariant-loop-at g l = first_from g.R.Rule.rule (take l.at l.index) (drop l.at l.index) ≡ first_by g.R.Rule.rule l.index
