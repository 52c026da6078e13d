use Rattle.std.proofs.Common.{◌≡◌, ◌==◌, ◌++◌, List, map, drop, filter}
use Rattle.serde_json.specs.View.{view}
use Rattle.wb_model.specs.declared.registry.ContextItem.{ContextItem}
use Rattle.wb_model.specs.TenantViews.{admin_context}
use Rattle.wb_views.proofs.admin.contexts_value.Given as goal

abbrev pub invariant-loop-context : goal.invariant-loop-context
invariant-loop-context l = let shown = λ (xs : List ContextItem). map admin_context (filter (λ (x : ContextItem). x.tenant == l.tenant) xs) in map view l.values.items ++ shown (drop l.context-index l.contexts) ≡ shown l.contexts
