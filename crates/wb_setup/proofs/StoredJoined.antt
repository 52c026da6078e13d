-- Salts and digests of what is kept with what a setup adds are of their lengths, and holidays are dates, where both are.
use Rattle.std.proofs.Common.{◌≡◌, not, true}
use Rattle.std.proofs.lemmas.Bool.{and_parts, and_from}
use Rattle.std.specs.Cmp.{nat_cmp_total}
use Rattle.std.specs.List.{list_all}
use Rattle.wb_model.specs.declared.registry.Lists.{Lists}
use Rattle.wb_model.specs.declared.registry.TenantItem.{TenantItem}
use Rattle.wb_model.specs.declared.registry.UserItem.{UserItem}
use Rattle.wb_model.specs.Readable.{are_bytes, are_stored, is_stored_tenant}
use Rattle.wb_model.specs.SetUps.{has_tenant}
use Rattle.wb_setup.specs.Joined.{others_of, joined}
use Rattle.wb_setup.specs.Keys.{tenant_key}
use Rattle.wb_setup.proofs.Joining.{of_user, user_id}
use Rattle.wb_setup.proofs.Orders.{key, key_total}
use Rattle.wb_setup.proofs.OtherLists.{all_fewer}
use Rattle.wb_setup.proofs.Puts.{all_puts}

pub joined_are_stored : (setup kept : Lists) → are_stored setup ≡ true → are_stored kept ≡ true → are_stored (joined setup kept) ≡ true
joined_are_stored setup kept given had =
    let secret = λ (x : UserItem). are_bytes 32 x.secret.0 in
    let more = and_parts (list_all is_stored_tenant setup.tenants) (list_all secret setup.users) given in
    let before = and_parts (list_all is_stored_tenant kept.tenants) (list_all secret kept.users) had in
    and_from _ _
    (all_puts nat_cmp_total tenant_key is_stored_tenant (others_of setup kept).tenants kept.tenants (all_fewer (λ (x : TenantItem). not (has_tenant kept x.tenant)) is_stored_tenant is_stored_tenant (λ x other is. is) setup.tenants more.0) before.0)
    (all_puts key_total (key of_user user_id) secret (others_of setup kept).users kept.users (all_fewer (λ (x : UserItem). not (has_tenant kept x.tenant)) secret secret (λ x other is. is) setup.users more.1) before.1)
