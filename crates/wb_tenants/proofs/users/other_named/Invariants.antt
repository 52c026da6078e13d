use Rattle.std.proofs.Common.{◌≡◌, ◌==◌, ◌&&◌, not, drop, find}
use Rattle.wb_base.specs.AnswerList.{is_text}
use Rattle.wb_model.specs.declared.registry.UserItem.{UserItem}
use Rattle.wb_tenants.proofs.users.other_named.Given as goal

abbrev pub invariant-loop-user : goal.invariant-loop-user
invariant-loop-user l = find (λ (x : UserItem). is_text x.name l.next.name && not (x.id == l.id)) l.users ≡ find (λ (x : UserItem). is_text x.name l.next.name && not (x.id == l.id)) (drop l.user-index l.users)
