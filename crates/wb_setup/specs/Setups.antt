-- What the bytes of a setup are: its lists, or why it is none.
use Rattle.std.specs.Prelude.{ℕ, Bool, if◌then◌else◌, List, [], fold, Option, Some, None, Result, Ok, Err}
use Rattle.std.specs.Ordering.{nat_cmp}
use Rattle.toml.specs.Data.{Data}
use Rattle.wb_list.specs.Keyed.{insert_item}
use Rattle.wb_model.specs.declared.registry.ContextItem.{ContextItem}
use Rattle.wb_model.specs.declared.registry.FormItem.{FormItem}
use Rattle.wb_model.specs.declared.registry.TenantItem.{TenantItem}
use Rattle.wb_model.specs.declared.registry.UserItem.{UserItem}
use Rattle.wb_model.specs.declared.registry.Lists.{Lists}
use Rattle.wb_base.specs.Secrets.{digest}
use Rattle.wb_model.specs.Settings.{ascending}
use Rattle.wb_setup.specs.declared.given.GivenUser.{GivenUser}
use Rattle.wb_setup.specs.declared.given.GivenContext.{GivenContext}
use Rattle.wb_setup.specs.declared.given.GivenTenant.{GivenTenant}
use Rattle.wb_setup.specs.declared.setup.SetupFault.{SetupFault}
use Rattle.wb_setup.specs.declared.setup.SetupFault.TheVariants.{Text, Rule}
use Rattle.wb_setup.specs.Keys.{tenant_key, key_cmp, user_key, version_key, context_key}
use Rattle.wb_setup.specs.TomlValues.{document}
use Rattle.wb_setup.specs.Given.{tenants_of}
use Rattle.wb_setup.specs.Rules.{rule_2, rule_3, rule_4, rule_5, rule_7, rule_8, rule_9, forms_of}

-- ---- the items of the setup

abbrev pub tenant_item : GivenTenant → TenantItem
tenant_item t = record { tenant = t.id; external = t.external; calendar = t.calendar; name = t.name; notice_days = t.notice_days; offset = t.offset; quota = t.quota; salt = t.salt }

-- never disabled yet, and with the digest of its password under the tenant's salt
abbrev pub user_item : GivenTenant → GivenUser → UserItem
user_item t u = record { tenant = t.id; id = u.id; disabled = 0; enabled = u.enabled; may = u.may; name = u.name; role = u.role; secret = digest t.salt u.password }

abbrev pub context_item : GivenTenant → GivenContext → ContextItem
context_item t c = record { tenant = t.id; id = c.id; form = c.form; name = c.name; is_open = c.is_open; recipients = ascending c.recipients; retention = c.retention }

-- ---- each at its place

abbrev pub put_tenant : List TenantItem → GivenTenant → List TenantItem
put_tenant items t = insert_item nat_cmp tenant_key items (tenant_item t)

abbrev pub put_user : GivenTenant → List UserItem → GivenUser → List UserItem
put_user t items u = insert_item key_cmp user_key items (user_item t u)

abbrev pub put_users : List UserItem → GivenTenant → List UserItem
put_users items t = fold (put_user t) items t.users

abbrev pub put_form : List FormItem → FormItem → List FormItem
put_form items x = insert_item key_cmp version_key items x

abbrev pub put_context : GivenTenant → List ContextItem → GivenContext → List ContextItem
put_context t items c = insert_item key_cmp context_key items (context_item t c)

abbrev pub put_contexts : List ContextItem → GivenTenant → List ContextItem
put_contexts items t = fold (put_context t) items t.contexts

-- the lists of the setup, each in the order of its keys
abbrev pub lists_of : List GivenTenant → List FormItem → Lists
lists_of ts forms = record {
  tenants = fold put_tenant [] ts;
  users = fold put_users [] ts;
  forms = fold put_form [] forms;
  contexts = fold put_contexts [] ts;
}

-- ---- the least rule that is broken

-- a rule that is kept, and then the rest
abbrev pub kept : ℕ → Bool → Result Lists SetupFault → Result Lists SetupFault
kept rule holds rest = if holds then rest else Err (Rule rule)

-- by the forms that were read, and by the rules after the sixth
abbrev pub with_forms : List GivenTenant → Option (List FormItem) → Result Lists SetupFault
with_forms ts None = Err (Rule 6)
with_forms ts (Some forms) = kept 7 (rule_7 ts) (kept 8 (rule_8 ts) (kept 9 (rule_9 ts) (Ok (lists_of ts forms))))

abbrev pub with_tenants : Option (List GivenTenant) → Result Lists SetupFault
with_tenants None = Err (Rule 1)
with_tenants (Some ts) = kept 2 (rule_2 ts) (kept 3 (rule_3 ts) (kept 4 (rule_4 ts) (kept 5 (rule_5 ts) (with_forms ts (forms_of ts)))))

abbrev pub with_document : Option Data → Result Lists SetupFault
with_document None = Err Text
with_document (Some d) = with_tenants (tenants_of d)

-- the lists that the bytes of a setup give: the bytes are no TOML document, or the least broken rule, or the lists
abbrev pub setup : List ℕ → Result Lists SetupFault
setup bytes = with_document (document bytes)
