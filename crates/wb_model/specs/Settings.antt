-- What an admin sets: why it is refused, and the registry after it.
use Rattle.std.specs.Prelude.{ℕ, ◌+◌, ◌*◌, ◌==◌, ◌&&◌, ◌||◌, nat_le, not, Bool, false, if◌then◌else◌, List, [], find, fold, Option, Some, None, option_map, is_some, Result, Ok, Err}
use Rattle.std.specs.List.{list_all}
use Rattle.std.specs.Option.{option_map_or, option_or}
use Rattle.std.specs.Ordering.{nat_cmp}
use Rattle.wb_list.specs.Keyed.{insert_item}
use Rattle.wb_base.specs.declared.callers.Role.TheVariants.{Recipient}
use Rattle.wb_base.specs.declared.faults.FormFault.{FormFault}
use Rattle.wb_base.specs.declared.form.Form.{Form}
use Rattle.wb_base.specs.declared.words.Digest.{Digest}
use Rattle.wb_base.specs.declared.words.Salt.{Salt}
use Rattle.wb_base.specs.AnswerList.{is_text}
use Rattle.wb_model.specs.declared.body.Told.{Told}
use Rattle.wb_model.specs.declared.command.ContextSet.{ContextSet}
use Rattle.wb_model.specs.declared.command.SettingsSet.{SettingsSet}
use Rattle.wb_model.specs.declared.command.UserSet.{UserSet}
use Rattle.wb_model.specs.declared.setting.AdminFault.{AdminFault}
use Rattle.wb_model.specs.declared.setting.AdminFault.TheVariants.{NotFound, NoPassword, NameTaken, RoleFixed, Full}
use Rattle.wb_model.specs.declared.registry.ContextItem.{ContextItem}
use Rattle.wb_model.specs.declared.registry.FormItem.{FormItem}
use Rattle.wb_model.specs.declared.registry.UserItem.{UserItem}
use Rattle.wb_base.specs.Secrets.{digest}
use Rattle.wb_model.specs.Tables.{Registry, user, newest_form, same_role}
use Rattle.wb_model.specs.Json.{told}
use Rattle.wb_model.specs.Refusals.{not_found, form_faulty}
use Rattle.wb_model.specs.Refusing.{refuses_where}
use Rattle.wb_model.specs.Faults.{admin_told}
use Rattle.wb_model.specs.ShortViews.{done_view, version_view}

-- what an accepted setting puts into the registry
pub data Setting : Type 0 where
  -- the tenant's name, its days of notice and its quota
  OfTenant : SettingsSet → Setting
  -- a user, and whether this user's sessions end
  OfUser : UserItem → Bool → Setting
  OfContext : ContextItem → Setting
  -- one more version of a form
  OfForm : FormItem → Setting

abbrev pub form_key : FormItem → ℕ
form_key x = x.id * 100 + x.version

-- the registry with a setting: each list in the order of its ids, an item in the place of the one that had its id
abbrev pub configured : Setting → Registry → Registry
configured (OfTenant next) g = record g { settings = record g.settings { name = next.name; notice_days = next.notice_days; quota = next.quota } }
configured (OfUser item ends) g = record g { users = insert_item nat_cmp (λ (x : UserItem). x.id) g.users item }
configured (OfContext item) g = record g { contexts = insert_item nat_cmp (λ (x : ContextItem). x.id) g.contexts item }
configured (OfForm item) g = record g { forms = insert_item nat_cmp form_key g.forms item }

abbrev pub in_range : ℕ → ℕ → Bool
in_range most n = nat_le 1 n && nat_le n most

-- ---- a user

abbrev pub is_enabled : Option UserItem → Bool
is_enabled before = option_map_or (λ x. x.enabled) before false

abbrev pub times_disabled : Option UserItem → ℕ
times_disabled before = option_map_or (λ x. x.disabled) before 0

-- an enabled user is disabled
abbrev pub disables : Option UserItem → UserSet → Bool
disables before next = is_enabled before && not next.enabled

abbrev pub password_digest : Salt → Option UserItem → Option (List ℕ) → Digest
password_digest salt before (Some password) = digest salt password
password_digest salt None None = digest salt []
password_digest salt (Some x) None = x.secret

abbrev pub user_item : ℕ → Salt → ℕ → Option UserItem → UserSet → UserItem
user_item t salt u before next = record {
  tenant = t;
  id = u;
  disabled = if disables before next then times_disabled before + 1 else times_disabled before;
  enabled = next.enabled;
  may = next.may;
  name = next.name;
  role = next.role;
  secret = password_digest salt before next.password;
}

-- disabling a user, or a new password, ends the user's sessions
abbrev pub ends_sessions : UserSet → Bool
ends_sessions next = not next.enabled || is_some next.password

abbrev pub name_taken : ℕ → UserSet → List UserItem → Option AdminFault
name_taken u next users = option_map (λ (x : UserItem). NameTaken x.id) (find (λ x. is_text x.name next.name && not (x.id == u)) users)

abbrev pub role_fixed : Option UserItem → UserSet → Option AdminFault
role_fixed None next = None
role_fixed (Some x) next = refuses_where (not (same_role x.role next.role)) (RoleFixed x.role)

-- why a user is not set
abbrev pub user_fault : List UserItem → ℕ → UserSet → Option AdminFault
user_fault users u next = let before = user u users in
    option_or (refuses_where (not (in_range 256 u)) NotFound)
    (option_or (refuses_where (not (is_some before || is_some next.password)) NoPassword)
    (option_or (name_taken u next users)
    (option_or (role_fixed before next)
    (refuses_where (disables before next && nat_le 10_000 (times_disabled before)) Full))))

-- ---- a context

abbrev pub is_recipient : List UserItem → ℕ → Bool
is_recipient users u = option_map_or (λ (x : UserItem). same_role x.role Recipient) (user u users) false

-- why a context is not set: its number, its form or a recipient is not there
abbrev pub context_fault : Registry → ℕ → ContextSet → Option AdminFault
context_fault g c next = refuses_where (not (in_range 64 c && is_some (newest_form next.form g.forms) && list_all (is_recipient g.users) next.recipients)) NotFound

abbrev pub ascending : List ℕ → List ℕ
ascending ids = fold (λ before id. insert_item nat_cmp (λ (n : ℕ). n) before id) [] ids

abbrev pub context_item : ℕ → ℕ → ContextSet → ContextItem
context_item t c next = record { tenant = t; id = c; form = next.form; name = next.name; is_open = next.is_open; recipients = ascending next.recipients; retention = next.retention }

-- ---- a form

-- the version that a form's next one is
abbrev pub next_version : ℕ → List FormItem → ℕ
next_version f forms = option_map_or (λ x. x.version) (newest_form f forms) 0 + 1

-- why a form, which is good, is not set
abbrev pub form_fault : List FormItem → ℕ → Option AdminFault
form_fault forms f = option_or (refuses_where (not (in_range 16 f)) NotFound) (refuses_where (not (nat_le (next_version f forms) 99)) Full)

abbrev pub form_item : ℕ → ℕ → List FormItem → Form → FormItem
form_item t f forms form = record { tenant = t; id = f; version = next_version f forms; form = form }

-- ---- what an admin asks to set

pub data Proposal : Type 0 where
  ToTenant : SettingsSet → Proposal
  ToUser : ℕ → UserSet → Proposal
  ToContext : ℕ → ContextSet → Proposal
  -- with what is wrong with the form where it is not good
  ToForm : ℕ → Result Form FormFault → Proposal

-- what refuses it; a form's number is looked at before the form, and that before how many versions there are
abbrev pub proposal_refusal : Registry → Proposal → Option Told
proposal_refusal g (ToTenant next) = None
proposal_refusal g (ToUser u next) = option_map (admin_told 10_000) (user_fault g.users u next)
proposal_refusal g (ToContext c next) = option_map (admin_told 0) (context_fault g c next)
proposal_refusal g (ToForm f (Ok form)) = option_map (admin_told 99) (form_fault g.forms f)
proposal_refusal g (ToForm f (Err fault)) = Some (if in_range 16 f then form_faulty fault else not_found)

-- what it puts into the registry; a context keeps its reports for a day at least
abbrev pub setting_of : ℕ → Registry → Proposal → Option Setting
setting_of t g (ToTenant next) = Some (OfTenant next)
setting_of t g (ToUser u next) = Some (OfUser (user_item t g.settings.salt u (user u g.users) next) (ends_sessions next))
setting_of t g (ToContext c next) = if nat_le 1 next.retention then Some (OfContext (context_item t c next)) else None
setting_of t g (ToForm f (Ok form)) = Some (OfForm (form_item t f g.forms form))
setting_of t g (ToForm f (Err fault)) = None

-- the reply to it
abbrev pub proposal_told : Registry → Proposal → Told
proposal_told g (ToTenant next) = told 200 done_view
proposal_told g (ToUser u next) = told 200 done_view
proposal_told g (ToContext c next) = told 200 done_view
proposal_told g (ToForm f form) = told 200 (version_view (next_version f g.forms))
