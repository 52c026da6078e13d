-- The registry as contracts see it, and what its calls set.
use Rattle.std.specs.Prelude.{◌≡◌, ℕ, ◌==◌, ◌&&◌, Bool, true, List, find, unwrap_or, Option, is_some}
use Rattle.std.specs.Ordering.{nat_cmp}
use Rattle.wb_list.specs.Keyed.{insert_item}
use Rattle.wb_base.specs.declared.form.Form.{Form}
use Rattle.wb_model.specs.declared.command.ContextSet.{ContextSet}
use Rattle.wb_model.specs.declared.command.SettingsSet.{SettingsSet}
use Rattle.wb_model.specs.declared.command.UserSet.{UserSet}
use Rattle.wb_model.specs.declared.registry.FormItem.{FormItem}
use Rattle.wb_model.specs.declared.registry.Lists.{Lists}
use Rattle.wb_model.specs.declared.registry.TenantItem.{TenantItem}
use Rattle.wb_model.specs.declared.registry.UserItem.{UserItem}
use Rattle.wb_model.specs.Openings.{registry_of, no_settings}
use Rattle.wb_model.specs.Settings.{user_item, context_item, form_item}
use Rattle.wb_model.specs.Tables.{user}
use Rattle.wb_setup.specs.Keys.{tenant_key, key_cmp, user_key, version_key, context_key}

-- its lists, and how many more users, form versions and contexts it takes without memory
pub record Roomed : Type 0 where
  pub lists : Lists
  pub users : ℕ
  pub forms : ℕ
  pub contexts : ℕ

abbrev pub is_tenant : ℕ → TenantItem → Bool
is_tenant t x = x.tenant == t

-- the tenant is there
abbrev pub HasTenant : Lists → ℕ → Type 0
HasTenant lists t = is_some (find (is_tenant t) lists.tenants) ≡ true

-- a version of a form
abbrev pub is_version : ℕ → ℕ → FormItem → Bool
is_version id version x = (x.id == id) && (x.version == version)

abbrev pub version_of : ℕ → ℕ → List FormItem → Option FormItem
version_of id version forms = find (is_version id version) forms

-- ---- the settings

-- what is listed of a tenant
abbrev pub settings_in : List TenantItem → ℕ → TenantItem
settings_in tenants t = unwrap_or (find (is_tenant t) tenants) (no_settings t)

-- a tenant with other settings
abbrev pub set_tenant : SettingsSet → TenantItem → TenantItem
set_tenant next x = record x { name = next.name; notice_days = next.notice_days; quota = next.quota }

-- the lists with new settings of a tenant
abbrev pub with_settings : ℕ → SettingsSet → Lists → Lists
with_settings t next lists = record lists { tenants = insert_item nat_cmp tenant_key lists.tenants (set_tenant next (registry_of lists t).settings) }

-- ---- a user

-- the user as it is set
abbrev pub set_user : ℕ → ℕ → UserSet → Lists → UserItem
set_user t u next lists = user_item t (registry_of lists t).settings.salt u (user u (registry_of lists t).users) next

-- the lists with the user
abbrev pub with_user : ℕ → ℕ → UserSet → Lists → Lists
with_user t u next lists = record lists { users = insert_item key_cmp user_key lists.users (set_user t u next lists) }

-- ---- a form

-- the lists with one more version of the form
abbrev pub with_form : ℕ → ℕ → Form → Lists → Lists
with_form t f form lists = record lists { forms = insert_item key_cmp version_key lists.forms (form_item t f (registry_of lists t).forms form) }

-- ---- a context

-- the lists with the context
abbrev pub with_context : ℕ → ℕ → ContextSet → Lists → Lists
with_context t c next lists = record lists { contexts = insert_item key_cmp context_key lists.contexts (context_item t c next) }
