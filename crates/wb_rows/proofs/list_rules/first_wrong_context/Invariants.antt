use Rattle.std.proofs.Common.{◌≡◌, drop}
use Rattle.wb_rows.specs.Places.{context_key}
use Rattle.wb_rows.specs.Blame.{first_breaking}
use Rattle.wb_rows.specs.ListRules.{is_right_context}
use Rattle.wb_rows.proofs.list_rules.first_wrong_context.Given as goal

-- what is left breaks the rule first where all does
abbrev pub invariant-loop-context : goal.invariant-loop-context
invariant-loop-context l = first_breaking (is_right_context l.registry.lists) context_key (drop l.context-index l.contexts) ≡ first_breaking (is_right_context l.registry.lists) context_key l.contexts
