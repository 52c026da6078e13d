-- The rules of what tenants are set up with, computed: the starter tenant keeps each, and a list that breaks one.
use Rattle.std.proofs.Common.{◌≡◌, Bool, true, false, [], ◌∷◌, refl, ap, pos}
use Rattle.std.specs.Prelude.{codes, ◌&&◌}
use Rattle.std.specs.List.{list_all}
use Rattle.wb_base.specs.declared.callers.Role.TheVariants as roles
use Rattle.wb_model.specs.declared.registry.ContextItem.{ContextItem}
use Rattle.wb_model.specs.declared.registry.FormItem.{FormItem}
use Rattle.wb_model.specs.declared.registry.Lists.{Lists}
use Rattle.wb_model.specs.declared.registry.TenantItem.{TenantItem}
use Rattle.wb_model.specs.declared.registry.UserItem.{UserItem}
use Rattle.wb_model.specs.Legal.{ascends}
use Rattle.wb_model.specs.SetUps.{is_tenant_item, is_user_item, is_form_item, is_context_item, are_apart, tenant_ids, is_user_before, same_user_name, is_version_before, is_context_before, are_owned, has_form, has_recipients, follows, AreSetUp}
use Rattle.wb_model.specs.Ordered.{are_ordered}
use Rattle.wb_model.proofs.Starter.{starter_registry, starter_user, starter_context, starter_form}
use Rattle.wb_model.proofs.StarterForm.{starter-good}

abbrev pub starter_lists : Lists
starter_lists = record { tenants = starter_registry.settings ∷ []; users = starter_registry.users; forms = starter_registry.forms; contexts = starter_registry.contexts }

pub starter_is_set_up : AreSetUp starter_lists
unfolding starter_registry
starter_is_set_up = record {
  tenants = refl;
  users = refl;
  forms = ap (λ good. good && true) starter-good;
  contexts = refl;
  order = refl;
  user_ids = refl;
  user_names = refl;
  versions = refl;
  context_ids = refl;
  owned = refl;
  gapless = refl;
  asked = refl;
  recipients = refl;
}

-- ---- ranges

abbrev settings : TenantItem
settings = starter_registry.settings

abbrev tenants_are : Bool → TenantItem → Type 0
tenants_are is x = is_tenant_item x ≡ is

tenant-row : tenants_are true (record settings { tenant = 64; notice_days = 30; offset = pos 840; quota = 100_000 })
unfolding starter_registry
tenant-row = refl

zone-row : is_tenant_item (record settings { offset = pos 841 }) ≡ false
unfolding starter_registry
zone-row = refl

tenant-65-row : is_tenant_item (record settings { tenant = 65 }) ≡ false
unfolding starter_registry
tenant-65-row = refl

notice-row : is_tenant_item (record settings { notice_days = 31 }) ≡ false
unfolding starter_registry
notice-row = refl

quota-row : is_tenant_item (record settings { quota = 0 }) ≡ false
unfolding starter_registry
quota-row = refl

nameless-row : is_tenant_item (record settings { name = [] }) ≡ false
unfolding starter_registry
nameless-row = refl

abbrev ada : UserItem
ada = starter_user 1 (codes "ada") roles.Recipient [] true

-- no user is a reporter, and none was disabled more often than 10,000 times
reporter-row : is_user_item (record ada { role = roles.Reporter }) ≡ false
reporter-row = refl

disabled-row : is_user_item (record ada { id = 256; disabled = 10_000 }) ≡ true
disabled-row = refl

too-often-row : is_user_item (record ada { disabled = 10_001 }) ≡ false
too-often-row = refl

user-257-row : is_user_item (record ada { id = 257 }) ≡ false
user-257-row = refl

abbrev first_form : FormItem
first_form = record { tenant = 1; id = 1; version = 1; form = starter_form }

version-100-row : is_form_item (record first_form { version = 100 }) ≡ false
version-100-row = refl

form-17-row : is_form_item (record first_form { id = 17 }) ≡ false
form-17-row = refl

-- a form without a step is not good
bad-form-row : is_form_item (record first_form { form = record { steps = [] } }) ≡ false
bad-form-row = refl

abbrev fraud : ContextItem
fraud = starter_context 1 (codes "Fraud") 30 1

context-row : is_context_item (record fraud { id = 64; retention = 3_650; recipients = 1 ∷ 2 ∷ [] }) ≡ true
context-row = refl

no-day-row : is_context_item (record fraud { retention = 0 }) ≡ false
no-day-row = refl

no-reader-row : is_context_item (record fraud { recipients = [] }) ≡ false
no-reader-row = refl

twice-row : is_context_item (record fraud { recipients = 1 ∷ 1 ∷ [] }) ≡ false
twice-row = refl

-- ---- the order of tenants, and what is distinct

order-row : ascends (tenant_ids (record starter_lists { tenants = record settings { tenant = 2 } ∷ settings ∷ [] })) ≡ false
unfolding starter_registry
order-row = refl

-- users stand in the order of their ids, each once, and no name stands twice; in two tenants both may be the same
same-user-row : are_ordered is_user_before (ada ∷ record ada { name = codes "eve" } ∷ []) ≡ false
same-user-row = refl

same-name-row : are_apart same_user_name (ada ∷ record ada { id = 9 } ∷ []) ≡ false
same-name-row = refl

two-tenants-row : (are_ordered is_user_before (ada ∷ record ada { tenant = 2 } ∷ []) && are_apart same_user_name (ada ∷ record ada { tenant = 2 } ∷ [])) ≡ true
two-tenants-row = refl

same-version-row : are_ordered is_version_before (first_form ∷ record first_form { version = 2 } ∷ first_form ∷ []) ≡ false
same-version-row = refl

-- the newest version of a form is the last of the list
later-version-row : are_ordered is_version_before (record first_form { version = 2 } ∷ first_form ∷ []) ≡ false
later-version-row = refl

next-form-row : are_ordered is_version_before (record first_form { version = 99 } ∷ record first_form { id = 2 } ∷ []) ≡ true
next-form-row = refl

later-user-row : are_ordered is_user_before (record ada { id = 2 } ∷ ada ∷ []) ≡ false
later-user-row = refl

same-context-row : are_ordered is_context_before (fraud ∷ fraud ∷ []) ≡ false
same-context-row = refl

-- ---- what is there

owned-row : are_owned (record starter_lists { users = record ada { tenant = 2 } ∷ [] }) ≡ false
unfolding starter_registry
owned-row = refl

owned-form-row : are_owned (record starter_lists { forms = record first_form { tenant = 2 } ∷ [] }) ≡ false
unfolding starter_registry
owned-form-row = refl

owned-context-row : are_owned (record starter_lists { contexts = record fraud { tenant = 2 } ∷ [] }) ≡ false
unfolding starter_registry
owned-context-row = refl

-- versions 1 and 3 have a gap between them
gap-row : list_all (follows (record starter_lists { forms = first_form ∷ record first_form { version = 3 } ∷ [] })) (first_form ∷ record first_form { version = 3 } ∷ []) ≡ false
unfolding starter_registry
gap-row = refl

no-form-row : has_form starter_lists (record fraud { form = 2 }) ≡ false
unfolding starter_registry
no-form-row = refl

-- a recipient may be disabled; a custodian and a number without a user are none
disabled-recipient-row : has_recipients (record starter_lists { users = record ada { enabled = false } ∷ [] }) fraud ≡ true
unfolding starter_registry
disabled-recipient-row = refl

custodian-row : has_recipients starter_lists (record fraud { recipients = 1 ∷ 3 ∷ [] }) ≡ false
unfolding starter_registry
custodian-row = refl

nobody-row : has_recipients starter_lists (record fraud { recipients = 9 ∷ [] }) ≡ false
unfolding starter_registry
nobody-row = refl
