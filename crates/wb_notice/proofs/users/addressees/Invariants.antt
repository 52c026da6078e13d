use Rattle.std.proofs.Common.{◌≡◌, ◌++◌, drop}
use Rattle.std.specs.Prelude.{◌==◌, filter}
use Rattle.wb_model.specs.declared.registry.UserItem.{UserItem}
use Rattle.wb_notice.specs.Owed.{addressees}
use Rattle.wb_notice.proofs.users.addressees.Given as goal

abbrev pub invariant-loop-user : goal.invariant-loop-user
invariant-loop-user l = l.found.items ++ addressees (filter (λ (x : UserItem). x.tenant == l.tenant) (drop l.user-index l.users)) ≡ addressees (filter (λ (x : UserItem). x.tenant == l.tenant) l.users)
