use Rattle.std.proofs.Common.{◌≡◌, drop, fold}
use Rattle.wb_list.specs.Keyed.{IsAscending}
use Rattle.wb_setup.specs.Keys.{key_cmp, user_key}
use Rattle.wb_setup.specs.Setups.{put_user, put_users}
use Rattle.wb_setup.proofs.put.put_users.Given as goal

abbrev pub invariant-loop-user : goal.invariant-loop-user
invariant-loop-user l = record {
  rest : fold (put_user l.tenant) l.items.items (drop l.user-index l.tenant.users) ≡ put_users l.initial.items.items l.tenant;
  order : IsAscending key_cmp user_key l.items.items;
}
