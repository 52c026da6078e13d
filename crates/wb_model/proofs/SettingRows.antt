-- Settings, computed: the order of what refuses one, and what it leaves.
use Rattle.std.proofs.Common.{◌≡◌, ℕ, Bool, true, false, [], ◌∷◌, Option, Some, None, refl}
use Rattle.std.specs.Prelude.{codes, Result, Ok, Err}
use Rattle.wb_base.specs.declared.callers.Role.TheVariants as roles
use Rattle.wb_base.specs.declared.faults.FormFault.{FormFault}
use Rattle.wb_base.specs.declared.form.Form.{Form}
use Rattle.wb_model.specs.declared.body.Told.{Told}
use Rattle.wb_model.specs.declared.command.UserSet.{UserSet}
use Rattle.wb_model.specs.declared.command.ContextSet.{ContextSet}
use Rattle.wb_model.specs.declared.registry.UserItem.{UserItem}
use Rattle.wb_model.specs.declared.registry.FormItem.{FormItem}
use Rattle.wb_model.specs.declared.setting.AdminFault.TheVariants as admin
use Rattle.wb_model.specs.Refusals.{not_found, form_faulty}
use Rattle.wb_model.specs.Faults.{admin_told}
use Rattle.wb_model.specs.Settings.{ToTenant, ToUser, ToContext, ToForm, user_fault, user_item, form_fault, next_version, proposal_refusal, ascending, ends_sessions}
use Rattle.wb_model.proofs.Starter.{starter_registry, starter_form, starter_salt}

-- ---- users

abbrev none_may : UserSet
none_may = record { name = codes "ada"; role = roles.Recipient; enabled = true; may = record { delete = false; postpone = false; share = false; transfer = false }; password = None }

abbrev refused : ℕ → UserSet → Option Told
refused u next = proposal_refusal starter_registry (ToUser u next)

-- a number out of range comes before all else, and a new user's missing password before a name that is taken
no-user-row : refused 257 none_may ≡ Some not_found
unfolding starter_registry not_found admin_told
no-user-row = refl

zero-row : refused 0 none_may ≡ Some not_found
unfolding starter_registry not_found admin_told
zero-row = refl

no-password-row : refused 5 none_may ≡ Some (admin_told 10_000 admin.NoPassword)
unfolding starter_registry
no-password-row = refl

taken-row : refused 5 (record none_may { password = Some (codes "p") }) ≡ Some (admin_told 10_000 (admin.NameTaken 1))
unfolding starter_registry
taken-row = refl

new-row : refused 256 (record none_may { name = codes "eve"; password = Some (codes "p") }) ≡ None
unfolding starter_registry
new-row = refl

-- a taken name comes before another role
taken-first-row : refused 2 (record none_may { role = roles.Custodian }) ≡ Some (admin_told 10_000 (admin.NameTaken 1))
unfolding starter_registry
taken-first-row = refl

fixed-row : refused 1 (record none_may { role = roles.Custodian }) ≡ Some (admin_told 10_000 (admin.RoleFixed roles.Recipient))
unfolding starter_registry
fixed-row = refl

own-name-row : refused 1 none_may ≡ None
unfolding starter_registry
own-name-row = refl

-- a user who was disabled so often
abbrev often : ℕ → Bool → UserItem
often disabled enabled = record { tenant = 1; id = 1; disabled = disabled; enabled = enabled; may = record { delete = false; postpone = false; share = false; transfer = false }; name = codes "ada"; role = roles.Recipient; secret = record { 0 = [] } }

abbrev disables : UserSet
disables = record none_may { enabled = false }

-- another role comes before too many disablings, and only a disabling of an enabled user is one too many
fixed-first-row : user_fault (often 10_000 true ∷ []) 1 (record disables { role = roles.Admin }) ≡ Some (admin.RoleFixed roles.Recipient)
fixed-first-row = refl

full-row : user_fault (often 10_000 true ∷ []) 1 disables ≡ Some admin.Full
full-row = refl

last-row : user_fault (often 9_999 true ∷ []) 1 disables ≡ None
last-row = refl

again-row : user_fault (often 10_000 false ∷ []) 1 disables ≡ None
again-row = refl

enables-row : user_fault (often 10_000 false ∷ []) 1 none_may ≡ None
enables-row = refl

-- a disabling of an enabled user counts, that of a disabled one does not, and a new user starts at none
counts-row : (user_item 1 starter_salt 1 (Some (often 3 true)) disables).disabled ≡ 4
counts-row = refl

counts-not-row : (user_item 1 starter_salt 1 (Some (often 3 false)) disables).disabled ≡ 3
counts-not-row = refl

new-disabled-row : (user_item 1 starter_salt 5 None disables).disabled ≡ 0
new-disabled-row = refl

-- a disabling and a password end the user's sessions, another setting does not
ends-row : ends_sessions disables ≡ true
ends-row = refl

password-ends-row : ends_sessions (record none_may { password = Some (codes "p") }) ≡ true
password-ends-row = refl

keeps-row : ends_sessions none_may ≡ false
keeps-row = refl

-- ---- the tenant and contexts

settings-row : proposal_refusal starter_registry (ToTenant (record { name = codes "Harbour"; notice_days = 0; quota = 1 })) ≡ None
settings-row = refl

abbrev asks : ContextSet
asks = record { name = codes "Fraud"; form = 1; is_open = true; recipients = 2 ∷ 1 ∷ []; retention = 1 }

abbrev refused_context : ℕ → ContextSet → Option Told
refused_context c next = proposal_refusal starter_registry (ToContext c next)

context-row : refused_context 64 asks ≡ None
unfolding starter_registry
context-row = refl

no-context-row : refused_context 65 asks ≡ Some not_found
unfolding starter_registry not_found admin_told
no-context-row = refl

no-form-row : refused_context 1 (record asks { form = 2 }) ≡ Some not_found
unfolding starter_registry not_found admin_told
no-form-row = refl

no-recipient-row : refused_context 1 (record asks { recipients = 1 ∷ 9 ∷ [] }) ≡ Some not_found
unfolding starter_registry not_found admin_told
no-recipient-row = refl

custodian-row : refused_context 1 (record asks { recipients = 3 ∷ [] }) ≡ Some not_found
unfolding starter_registry not_found admin_told
custodian-row = refl

ascending-row : ascending (2 ∷ 1 ∷ 3 ∷ []) ≡ 1 ∷ 2 ∷ 3 ∷ []
ascending-row = refl

-- ---- forms

abbrev fault : FormFault
fault = record { code = 4; field = codes "what" }

abbrev refused_form : ℕ → Result Form FormFault → Option Told
refused_form f form = proposal_refusal starter_registry (ToForm f form)

-- a number out of range comes before a faulty form, and a faulty form before too many versions
no-form-number-row : refused_form 17 (Err fault) ≡ Some not_found
unfolding starter_registry
no-form-number-row = refl

good-form-number-row : refused_form 17 (Ok starter_form) ≡ Some not_found
unfolding starter_registry not_found admin_told
good-form-number-row = refl

faulty-row : refused_form 16 (Err fault) ≡ Some (form_faulty fault)
unfolding starter_registry
faulty-row = refl

good-row : refused_form 16 (Ok starter_form) ≡ None
unfolding starter_registry
good-row = refl

abbrev version : ℕ → FormItem
version v = record { tenant = 1; id = 1; version = v; form = starter_form }

faulty-first-row : proposal_refusal (record starter_registry { forms = version 99 ∷ [] }) (ToForm 1 (Err fault)) ≡ Some (form_faulty fault)
faulty-first-row = refl

versions-row : proposal_refusal (record starter_registry { forms = version 99 ∷ [] }) (ToForm 1 (Ok starter_form)) ≡ Some (admin_told 99 admin.Full)
versions-row = refl

last-version-row : form_fault (version 98 ∷ []) 1 ≡ None
last-version-row = refl

first-version-row : next_version 2 (version 98 ∷ []) ≡ 1
first-version-row = refl
