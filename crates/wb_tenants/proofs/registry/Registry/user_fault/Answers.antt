use Rattle.std.proofs.Common.{◌≡◌, ◌==◌, ◌&&◌, ◌||◌, nat_le, not, true, find, None, is_some, rules, ◌∙◌}
use Rattle.std.specs.Option.{option_or}
use Rattle.wb_base.specs.AnswerList.{is_text}
use Rattle.wb_model.specs.declared.registry.UserItem.{UserItem}
use Rattle.wb_model.specs.declared.setting.AdminFault.TheVariants.{Full}
use Rattle.wb_model.specs.Openings.{registry_of}
use Rattle.wb_model.specs.Refusing.{refuses_where}
use Rattle.wb_model.specs.Settings.{role_fixed, disables, times_disabled}
use Rattle.wb_model.specs.Tables.{user}
use Rattle.wb_tenants.proofs.UserFaults.{within, left_to_refuse}
use Rattle.wb_tenants.proofs.registry.Registry.user_fault.Goals as goal

pub returns-in-None-clause-fault : goal.returns-in-None-clause-fault
returns-in-None-clause-fault c =
    let users = (registry_of c.args.self.now.lists c.args.tenant).users in
    let known : (is_some (user c.args.id users) || is_some c.args.next.now.password) ≡ true = search rules in
    let free : find (λ (x : UserItem). is_text x.name c.args.next.now.name && not (x.id == c.args.id)) users ≡ None = search rules in
    let last : c.last_fault.result ≡ option_or (role_fixed (user c.args.id users) c.args.next.now) (refuses_where (disables (user c.args.id users) c.args.next.now && nat_le 10_000 (times_disabled (user c.args.id users))) Full) = search rules in
    last ∙ left_to_refuse users c.args.id c.args.next.now (within c.args.id c.id-within.ensures.low c.id-within.ensures.high) known free
