use Rattle.std.proofs.Common.{◌≡◌, drop}
use Rattle.wb_base.specs.KeptRows.{key_of}
use Rattle.wb_rows.specs.Blame.{first_breaking}
use Rattle.wb_rows.specs.ListRules.{has_tenant_rows}
use Rattle.wb_rows.proofs.list_rules.first_without_tenant.Given as goal

-- what is left breaks the rule first where all does
abbrev pub invariant-loop-row : goal.invariant-loop-row
invariant-loop-row l = first_breaking (has_tenant_rows l.lists l.numberings) key_of (drop l.row-index l.rows) ≡ first_breaking (has_tenant_rows l.lists l.numberings) key_of l.rows
