-- The opening that lists of tenants make: no report, no number drawn, no session.
use Rattle.std.specs.Prelude.{ℕ, ◌==◌, [], find, filter, unwrap_or, None, pos, false}
use Rattle.wb_base.specs.Calendars.{plain}
use Rattle.wb_model.specs.declared.registry.Lists.{Lists}
use Rattle.wb_model.specs.declared.registry.TenantItem.{TenantItem}
use Rattle.wb_model.specs.Tables.{Registry}
use Rattle.wb_model.specs.Host.{Tables}

-- settings of a tenant that is not there, which no reply shows
abbrev pub no_settings : ℕ → TenantItem
no_settings t = record { tenant = t; external = false; calendar = plain; name = []; notice_days = 0; offset = pos 0; quota = 0; salt = record { 0 = [] } }

-- a tenant's part of the lists
abbrev pub registry_of : Lists → ℕ → Registry
registry_of lists t = record {
  settings = unwrap_or (find (λ x. x.tenant == t) lists.tenants) (no_settings t);
  users = filter (λ x. x.tenant == t) lists.users;
  forms = filter (λ x. x.tenant == t) lists.forms;
  contexts = filter (λ x. x.tenant == t) lists.contexts;
}

abbrev pub empty_tables : Registry → Tables
empty_tables g = record {
  plain = record { registry = g; numbering = record { at = 0; drawn = 0; last = 0 }; cases = []; sessions = [] };
  sealed = λ n. None;
}
