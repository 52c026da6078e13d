-- The rules of what tenants are set up with: rules 1 to 4.
use Rattle.std.specs.Prelude.{ℕ, ◌==◌, ◌-◌, ◌&&◌, ◌||◌, nat_le, Bool, List, Option, None, is_some}
use Rattle.std.specs.List.{list_any, list_all}
use Rattle.wb_base.specs.KeptRows.{key_of}
use Rattle.wb_base.specs.declared.rows.Row.{Row}
use Rattle.wb_row_codec.specs.declared.item.NumberingItem.{NumberingItem}
use Rattle.wb_model.specs.declared.registry.ContextItem.{ContextItem}
use Rattle.wb_model.specs.declared.registry.FormItem.{FormItem}
use Rattle.wb_model.specs.declared.registry.Lists.{Lists}
use Rattle.wb_model.specs.Openings.{registry_of}
use Rattle.wb_model.specs.Settings.{is_recipient}
use Rattle.wb_model.specs.SetUps.{has_tenant, same_user_name}
use Rattle.wb_rows.specs.declared.faults.RowFault.{RowFault}
use Rattle.wb_rows.specs.Blame.{first_breaking, first_repeated, blamed}
use Rattle.wb_rows.specs.Places.{user_key, form_key, context_key}
use Rattle.wb_tenants.specs.Sets.{version_of}

-- 1: the tenant that a row's key names has its settings and its numbering
unfoldable pub has_tenant_rows : Lists → List NumberingItem → Row → Bool
has_tenant_rows lists numberings row = has_tenant lists row.key.tenant && list_any (λ x. x.tenant == row.key.tenant) numberings

-- 2: no other user of the tenant has the user's name

-- a version of a form is there
abbrev pub has_version : Lists → ℕ → ℕ → ℕ → Bool
has_version lists t id version = is_some (version_of id version (registry_of lists t).forms)

-- 3: a form's version is the first, or the version before it is there
unfoldable pub follows : Lists → FormItem → Bool
follows lists x = nat_le x.version 1 || has_version lists x.tenant x.id (x.version - 1)

-- 4: a context's form is there (its first version, since versions have no gap), and its recipients are recipients
unfoldable pub is_right_context : Lists → ContextItem → Bool
is_right_context lists c = has_version lists c.tenant c.form 1 && list_all (is_recipient (registry_of lists c.tenant).users) c.recipients

-- the first of these rules that is broken, and the first row that breaks it
abbrev pub list_fault : List Row → Lists → List NumberingItem → Option RowFault
list_fault rows lists numberings =
    blamed 1 (first_breaking (has_tenant_rows lists numberings) key_of rows) (
    blamed 2 (first_repeated same_user_name user_key lists.users) (
    blamed 3 (first_breaking (follows lists) form_key lists.forms) (
    blamed 4 (first_breaking (is_right_context lists) context_key lists.contexts) None)))
