-- A tenant's part of the lists.
use Rattle.std.specs.Prelude.{ℕ, ◌==◌, filter}
use Rattle.wb_model.specs.declared.registry.Lists.{Lists}

-- of each list what is the tenant's
abbrev pub own_lists : ℕ → Lists → Lists
own_lists t lists = record {
  tenants = filter (λ x. x.tenant == t) lists.tenants;
  users = filter (λ x. x.tenant == t) lists.users;
  forms = filter (λ x. x.tenant == t) lists.forms;
  contexts = filter (λ x. x.tenant == t) lists.contexts;
}
