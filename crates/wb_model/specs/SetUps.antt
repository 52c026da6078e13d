-- The rules of what tenants are set up with, as lists of all tenants: the ranges, what is distinct, and what is there.
use Rattle.std.specs.Prelude.{◌≡◌, ℕ, ◌==◌, ◌+◌, ◌&&◌, ◌||◌, nat_lt, nat_le, not, Bool, true, false, List, [], ◌∷◌, map, find, ℤ, pos, neg_ℤ, int_le}
use Rattle.std.specs.List.{list_all, list_any}
use Rattle.std.specs.Option.{option_map_or}
use Rattle.wb_base.specs.AnswerList.{is_text}
use Rattle.wb_base.specs.FormFaults.{is_good}
use Rattle.wb_base.specs.declared.callers.Role.TheVariants.{Recipient}
use Rattle.wb_model.specs.declared.registry.Lists.{Lists}
use Rattle.wb_model.specs.declared.registry.TenantItem.{TenantItem}
use Rattle.wb_model.specs.declared.registry.UserItem.{UserItem}
use Rattle.wb_model.specs.declared.registry.FormItem.{FormItem}
use Rattle.wb_model.specs.declared.registry.ContextItem.{ContextItem}
use Rattle.wb_model.specs.Tables.{same_role}
use Rattle.wb_model.specs.Fits.{is_between, has_bytes, is_staff_role}
use Rattle.wb_model.specs.Ordered.{are_ordered}
use Rattle.wb_model.specs.Settings.{form_key}
use Rattle.wb_base.specs.Calendars.{are_holidays}
use Rattle.wb_model.specs.Legal.{are_readers, ascends}

-- ---- ranges

-- minutes from UTC
abbrev pub is_offset : ℤ → Bool
is_offset minutes = int_le (neg_ℤ (pos 720)) minutes && int_le minutes (pos 840)

abbrev pub is_tenant_item : TenantItem → Bool
is_tenant_item x = is_between 1 64 x.tenant && has_bytes 1 128 x.name && nat_le x.notice_days 30 && is_offset x.offset && is_between 1 100_000 x.quota && are_holidays x.calendar.holidays

abbrev pub is_user_item : UserItem → Bool
is_user_item x = is_between 1 256 x.id && has_bytes 1 64 x.name && is_staff_role x.role && nat_le x.disabled 10_000

abbrev pub is_form_item : FormItem → Bool
is_form_item x = is_between 1 16 x.id && is_between 1 99 x.version && is_good x.form

-- its recipients ascend, so they are distinct
abbrev pub is_context_item : ContextItem → Bool
is_context_item x = is_between 1 64 x.id && has_bytes 1 128 x.name && is_between 1 3_650 x.retention && are_readers x.recipients

-- ---- what is distinct and in order

-- no two of a list are the same by a test
abbrev pub are_apart : {X : Type 0} → (X → X → Bool) → List X → Bool
are_apart same [] = true
are_apart same (x ∷ xs) = not (list_any (same x) xs) && are_apart same xs

abbrev pub tenant_ids : Lists → List ℕ
tenant_ids lists = map (λ x. x.tenant) lists.tenants

-- by their tenants, and in one tenant by their numbers
abbrev pub is_user_before : UserItem → UserItem → Bool
is_user_before x y = nat_lt x.tenant y.tenant || ((x.tenant == y.tenant) && nat_lt x.id y.id)

abbrev pub same_user_name : UserItem → UserItem → Bool
same_user_name x y = (x.tenant == y.tenant) && is_text x.name y.name

-- the versions of one form by theirs
abbrev pub is_version_before : FormItem → FormItem → Bool
is_version_before x y = nat_lt x.tenant y.tenant || ((x.tenant == y.tenant) && nat_lt (form_key x) (form_key y))

abbrev pub is_context_before : ContextItem → ContextItem → Bool
is_context_before x y = nat_lt x.tenant y.tenant || ((x.tenant == y.tenant) && nat_lt x.id y.id)

-- ---- what is there

abbrev pub has_tenant : Lists → ℕ → Bool
has_tenant lists t = list_any (λ x. x.tenant == t) lists.tenants

-- each user, form and context is of a tenant that is there
abbrev pub are_owned : Lists → Bool
are_owned lists = list_all (λ x. has_tenant lists x.tenant) lists.users && list_all (λ x. has_tenant lists x.tenant) lists.forms && list_all (λ x. has_tenant lists x.tenant) lists.contexts

abbrev pub has_form : Lists → ContextItem → Bool
has_form lists c = list_any (λ x. (x.tenant == c.tenant) && (x.id == c.form)) lists.forms

abbrev pub is_recipient_of : Lists → ℕ → ℕ → Bool
is_recipient_of lists t u = option_map_or (λ x. same_role x.role Recipient) (find (λ x. (x.tenant == t) && (x.id == u)) lists.users) false

abbrev pub has_recipients : Lists → ContextItem → Bool
has_recipients lists c = list_all (is_recipient_of lists c.tenant) c.recipients

-- the version before it is there
abbrev pub follows : Lists → FormItem → Bool
follows lists x = nat_le x.version 1 || list_any (λ y. (y.tenant == x.tenant) && (y.id == x.id) && (y.version + 1 == x.version)) lists.forms

-- ---- the whole

-- what the rules of a setup give of its lists, and the rules of kept rows of theirs
pub record AreSetUp (lists : Lists) : Type 0 where
  -- each value is in its range, and each form is good
  pub tenants : list_all is_tenant_item lists.tenants ≡ true
  pub users : list_all is_user_item lists.users ≡ true
  pub forms : list_all is_form_item lists.forms ≡ true
  pub contexts : list_all is_context_item lists.contexts ≡ true
  -- each list stands in the order of its ids, each once; and the names of a tenant's users are distinct
  pub order : ascends (tenant_ids lists) ≡ true
  pub user_ids : are_ordered is_user_before lists.users ≡ true
  pub user_names : are_apart same_user_name lists.users ≡ true
  pub versions : are_ordered is_version_before lists.forms ≡ true
  pub context_ids : are_ordered is_context_before lists.contexts ≡ true
  -- each tenant that is named is there
  pub owned : are_owned lists ≡ true
  -- the versions of a form run from 1 without a gap
  pub gapless : list_all (follows lists) lists.forms ≡ true
  -- each context's form is there, and its recipients are recipients
  pub asked : list_all (has_form lists) lists.contexts ≡ true
  pub recipients : list_all (has_recipients lists) lists.contexts ≡ true
