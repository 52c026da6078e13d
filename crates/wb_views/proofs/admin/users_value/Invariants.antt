use Rattle.std.proofs.Common.{◌≡◌, ◌==◌, ◌++◌, List, map, drop, filter}
use Rattle.serde_json.specs.View.{view}
use Rattle.wb_model.specs.declared.registry.UserItem.{UserItem}
use Rattle.wb_model.specs.TenantViews.{admin_user}
use Rattle.wb_views.proofs.admin.users_value.Given as goal

abbrev pub invariant-loop-user : goal.invariant-loop-user
invariant-loop-user l = let shown = λ (xs : List UserItem). map admin_user (filter (λ (x : UserItem). x.tenant == l.tenant) xs) in map view l.values.items ++ shown (drop l.user-index l.users) ≡ shown l.users
