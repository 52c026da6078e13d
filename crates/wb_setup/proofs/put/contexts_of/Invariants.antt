use Rattle.std.proofs.Common.{◌≡◌, [], drop, fold}
use Rattle.wb_list.specs.Keyed.{IsAscending}
use Rattle.wb_setup.specs.Keys.{key_cmp, context_key}
use Rattle.wb_setup.specs.Setups.{put_contexts}
use Rattle.wb_setup.proofs.put.contexts_of.Given as goal

abbrev pub invariant-loop-tenant : goal.invariant-loop-tenant
invariant-loop-tenant l = record {
  rest : fold put_contexts l.items.items (drop l.tenant-index l.tenants) ≡ fold put_contexts [] l.tenants;
  order : IsAscending key_cmp context_key l.items.items;
}
