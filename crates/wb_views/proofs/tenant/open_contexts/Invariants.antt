use Rattle.std.proofs.Common.{◌≡◌, ◌==◌, ◌++◌, List, map, drop, filter}
use Rattle.serde_json.specs.View.{view}
use Rattle.wb_model.specs.declared.registry.ContextItem.{ContextItem}
use Rattle.wb_model.specs.TenantViews.{public_context}
use Rattle.wb_views.proofs.tenant.open_contexts.Given as goal

abbrev pub invariant-loop-context : goal.invariant-loop-context
invariant-loop-context l = let shown = λ (xs : List ContextItem). map public_context (filter (λ (x : ContextItem). x.is_open) (filter (λ (x : ContextItem). x.tenant == l.tenant) xs)) in map view l.values.items ++ shown (drop l.context-index l.contexts) ≡ shown l.contexts
