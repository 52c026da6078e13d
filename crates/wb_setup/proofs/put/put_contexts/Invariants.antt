use Rattle.std.proofs.Common.{◌≡◌, drop, fold}
use Rattle.wb_list.specs.Keyed.{IsAscending}
use Rattle.wb_setup.specs.Keys.{key_cmp, context_key}
use Rattle.wb_setup.specs.Setups.{put_context, put_contexts}
use Rattle.wb_setup.proofs.put.put_contexts.Given as goal

abbrev pub invariant-loop-context : goal.invariant-loop-context
invariant-loop-context l = record {
  rest : fold (put_context l.tenant) l.items.items (drop l.context-index l.tenant.contexts) ≡ put_contexts l.initial.items.items l.tenant;
  order : IsAscending key_cmp context_key l.items.items;
}
