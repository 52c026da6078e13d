-- The order of the lists of all tenants: by the tenant, and in a tenant by the id.
use Rattle.std.specs.Prelude.{ℕ}
use Rattle.std.specs.Ordering.{nat_cmp, ordering_then}
use Rattle.std.specs.declared.cmp.Ordering.{Ordering}
use Rattle.wb_list.specs.Keyed.{IsAscending}
use Rattle.wb_model.specs.declared.registry.ContextItem.{ContextItem}
use Rattle.wb_model.specs.declared.registry.FormItem.{FormItem}
use Rattle.wb_model.specs.declared.registry.Lists.{Lists}
use Rattle.wb_model.specs.declared.registry.TenantItem.{TenantItem}
use Rattle.wb_model.specs.declared.registry.UserItem.{UserItem}
use Rattle.wb_model.specs.Settings.{form_key}

-- a tenant, and what tells its things apart
abbrev pub Key : Type 0
Key = ℕ × ℕ

abbrev pub key_cmp : Key → Key → Ordering
key_cmp a b = ordering_then (nat_cmp a.0 b.0) (nat_cmp a.1 b.1)

abbrev pub tenant_key : TenantItem → ℕ
tenant_key x = x.tenant

abbrev pub user_key : UserItem → Key
user_key x = (x.tenant, x.id)

-- the versions of a form follow each other
abbrev pub version_key : FormItem → Key
version_key x = (x.tenant, form_key x)

abbrev pub context_key : ContextItem → Key
context_key x = (x.tenant, x.id)

-- each list ascends by its keys, each key once
pub record AreInOrder (lists : Lists) : Type 0 where
  pub tenants : IsAscending nat_cmp tenant_key lists.tenants
  pub users : IsAscending key_cmp user_key lists.users
  pub forms : IsAscending key_cmp version_key lists.forms
  pub contexts : IsAscending key_cmp context_key lists.contexts
