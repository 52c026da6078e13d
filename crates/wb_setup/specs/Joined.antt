-- The lists of a setup and of what is kept, joined: a kept tenant stands whole, and of the setup's tenants those that are not kept are added.
use Rattle.std.specs.Prelude.{not, filter, fold}
use Rattle.std.specs.Ordering.{nat_cmp}
use Rattle.wb_list.specs.Keyed.{insert_item}
use Rattle.wb_model.specs.declared.registry.Lists.{Lists}
use Rattle.wb_model.specs.SetUps.{has_tenant}
use Rattle.wb_setup.specs.Keys.{tenant_key, key_cmp, user_key, version_key, context_key}

-- what a setup's lists have of tenants that are not kept
abbrev pub others_of : Lists → Lists → Lists
others_of setup kept = record {
  tenants = filter (λ x. not (has_tenant kept x.tenant)) setup.tenants;
  users = filter (λ x. not (has_tenant kept x.tenant)) setup.users;
  forms = filter (λ x. not (has_tenant kept x.tenant)) setup.forms;
  contexts = filter (λ x. not (has_tenant kept x.tenant)) setup.contexts;
}

-- lists with the items of others, each at its place
abbrev pub lists_with : Lists → Lists → Lists
lists_with lists more = record {
  tenants = fold (insert_item nat_cmp tenant_key) lists.tenants more.tenants;
  users = fold (insert_item key_cmp user_key) lists.users more.users;
  forms = fold (insert_item key_cmp version_key) lists.forms more.forms;
  contexts = fold (insert_item key_cmp context_key) lists.contexts more.contexts;
}

-- what is kept, and what of a setup is of other tenants
abbrev pub joined : Lists → Lists → Lists
joined setup kept = lists_with kept (others_of setup kept)
