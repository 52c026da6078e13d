-- The settings of a tenant that is there are its own.
use Rattle.std.proofs.Common.{◌≡◌, ℕ, true, Option, Some, None, refl, arith}
use Rattle.std.specs.Prelude.{find, is_some, unwrap_or}
use Rattle.std.proofs.lemmas.Bool.Decides.{nat_tests}
use Rattle.wb_model.specs.declared.registry.Lists.{Lists}
use Rattle.wb_model.specs.declared.registry.TenantItem.{TenantItem}
use Rattle.wb_model.specs.Openings.{registry_of, no_settings}
use Rattle.wb_model.proofs.Found.{find_true}
use Rattle.wb_tenants.specs.Sets.{HasTenant, is_tenant}

pub own_settings : (lists : Lists) (t : ℕ) → HasTenant lists t → (registry_of lists t).settings.tenant ≡ t
own_settings lists t there = by (find (is_tenant t) lists.tenants) refl there
  where
    by : (o : Option TenantItem) → find (is_tenant t) lists.tenants ≡ o → is_some o ≡ true → (unwrap_or o (no_settings t)).tenant ≡ t
    by None is some = grind (arith, some)
    by (Some x) is some = let own = find_true (is_tenant t) lists.tenants x is in grind (arith, nat_tests, own)
