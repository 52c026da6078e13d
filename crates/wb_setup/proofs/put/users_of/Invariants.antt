use Rattle.std.proofs.Common.{◌≡◌, [], drop, fold}
use Rattle.wb_list.specs.Keyed.{IsAscending}
use Rattle.wb_setup.specs.Keys.{key_cmp, user_key}
use Rattle.wb_setup.specs.Setups.{put_users}
use Rattle.wb_setup.proofs.put.users_of.Given as goal

abbrev pub invariant-loop-tenant : goal.invariant-loop-tenant
invariant-loop-tenant l = record {
  rest : fold put_users l.items.items (drop l.tenant-index l.tenants) ≡ fold put_users [] l.tenants;
  order : IsAscending key_cmp user_key l.items.items;
}
