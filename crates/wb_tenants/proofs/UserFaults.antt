-- What is left to refuse of a user with a password, whose name is free.
use Rattle.std.proofs.Common.{◌≡◌, ℕ, ◌≤◌, ◌==◌, ◌&&◌, ◌||◌, nat_le, not, true, List, find, None, is_some, refl}
use Rattle.std.proofs.lemmas.Bool.{le-leb}
use Rattle.std.specs.Option.{option_or}
use Rattle.wb_base.specs.AnswerList.{is_text}
use Rattle.wb_model.specs.declared.command.UserSet.{UserSet}
use Rattle.wb_model.specs.declared.registry.UserItem.{UserItem}
use Rattle.wb_model.specs.declared.setting.AdminFault.TheVariants.{Full}
use Rattle.wb_model.specs.Refusing.{refuses_where}
use Rattle.wb_model.specs.Settings.{in_range, user_fault, role_fixed, disables, times_disabled}
use Rattle.wb_model.specs.Tables.{user}

pub within : (u : ℕ) → 1 ≤ u → u ≤ 256 → in_range 256 u ≡ true
within u low high = rw (le-leb 1 u low, le-leb u 256 high) refl

pub left_to_refuse : (users : List UserItem) (u : ℕ) (next : UserSet) → in_range 256 u ≡ true → (is_some (user u users) || is_some next.password) ≡ true
    → find (λ (x : UserItem). is_text x.name next.name && not (x.id == u)) users ≡ None
    → option_or (role_fixed (user u users) next) (refuses_where (disables (user u users) next && nat_le 10_000 (times_disabled (user u users))) Full) ≡ user_fault users u next
left_to_refuse users u next in' known free = rw (in', known, free) refl
