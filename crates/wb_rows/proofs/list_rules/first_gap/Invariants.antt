use Rattle.std.proofs.Common.{◌≡◌, drop}
use Rattle.wb_rows.specs.Places.{form_key}
use Rattle.wb_rows.specs.Blame.{first_breaking}
use Rattle.wb_rows.specs.ListRules.{follows}
use Rattle.wb_rows.proofs.list_rules.first_gap.Given as goal

-- what is left breaks the rule first where all does
abbrev pub invariant-loop-form : goal.invariant-loop-form
invariant-loop-form l = first_breaking (follows l.registry.lists) form_key (drop l.form-index l.forms) ≡ first_breaking (follows l.registry.lists) form_key l.forms
