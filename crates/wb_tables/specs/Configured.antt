-- What a tenant is set up with as it is kept, and what is asked to be set of it.
use Rattle.std.specs.Prelude.{◌≡◌, ◌≤◌, ◌<◌, ℕ, true, Option, None, Ok}
use Rattle.wb_base.specs.FormFaults.{is_good}
use Rattle.wb_base.specs.FormJson.{kept_data}
use Rattle.wb_base.specs.declared.rows.Row.{Row}
use Rattle.wb_model.specs.declared.registry.Lists.{Lists}
use Rattle.wb_model.specs.declared.setting.AdminFault.{AdminFault}
use Rattle.wb_model.specs.Fits.{are_distinct}
use Rattle.wb_model.specs.Rows.{row, settings_data, user_data, context_data}
use Rattle.wb_model.specs.Settings as settings
use Rattle.wb_model.specs.Settings.{Setting, OfTenant, OfUser, OfContext, OfForm, user_fault, user_item, ends_sessions, context_fault, context_item, form_fault, form_item, next_version}
use Rattle.wb_model.specs.Tables.{Registry, user}
use Rattle.wb_tenants.specs.Sets.{set_tenant}
use Rattle.wb_tables.specs.declared.proposal.Proposal.{Proposal}
use Rattle.wb_tables.specs.declared.proposal.Proposal.TheVariants as proposals

-- the tenant, the lists of the registry that it is of, its part of them, and the room for more users, form versions and contexts
pub record Configured : Type 0 where
  pub tenant : ℕ
  pub lists : Lists
  pub registry : Registry
  pub users : ℕ
  pub forms : ℕ
  pub contexts : ℕ

-- what is asked, in the words of the definitions
abbrev pub proposal_of : Proposal → settings.Proposal
proposal_of (proposals.ToTenant next) = settings.ToTenant next
proposal_of (proposals.ToUser u next) = settings.ToUser u next
proposal_of (proposals.ToContext c next) = settings.ToContext c next
proposal_of (proposals.ToForm f form) = settings.ToForm f (Ok form)

-- it is in its ranges: the recipients of a context are distinct and it keeps its reports for a day at least, and a form is good
abbrev pub IsSoundProposal : Proposal → Type 0
IsSoundProposal (proposals.ToTenant next) = Unit {0}
IsSoundProposal (proposals.ToUser u next) = Unit {0}
IsSoundProposal (proposals.ToContext c next) = (are_distinct next.recipients ≡ true) × (1 ≤ next.retention)
IsSoundProposal (proposals.ToForm f form) = is_good form ≡ true

-- the first rule that refuses it
abbrev pub fault_of : Registry → Proposal → Option AdminFault
fault_of g (proposals.ToTenant next) = None
fault_of g (proposals.ToUser u next) = user_fault g.users u next
fault_of g (proposals.ToContext c next) = context_fault g c next
fault_of g (proposals.ToForm f form) = form_fault g.forms f

-- what it puts into the registry of a tenant
abbrev pub setting_of : ℕ → Registry → Proposal → Setting
setting_of t g (proposals.ToTenant next) = OfTenant next
setting_of t g (proposals.ToUser u next) = OfUser (user_item t g.settings.salt u (user u g.users) next) (ends_sessions next)
setting_of t g (proposals.ToContext c next) = OfContext (context_item t c next)
setting_of t g (proposals.ToForm f form) = OfForm (form_item t f g.forms form)

-- the row of it
abbrev pub row_of : ℕ → Registry → Proposal → Row
row_of t g (proposals.ToTenant next) = row 1 t 0 0 (settings_data (set_tenant next g.settings))
row_of t g (proposals.ToUser u next) = row 3 t u 0 (user_data (user_item t g.settings.salt u (user u g.users) next))
row_of t g (proposals.ToContext c next) = row 5 t c 0 (context_data (context_item t c next))
row_of t g (proposals.ToForm f form) = row 4 t f (next_version f g.forms) (kept_data form)

-- there is room for it
abbrev pub HasPlace : Configured → Proposal → Type 0
HasPlace c (proposals.ToTenant next) = Unit {0}
HasPlace c (proposals.ToUser u next) = 0 < c.users
HasPlace c (proposals.ToContext id next) = 0 < c.contexts
HasPlace c (proposals.ToForm f form) = 0 < c.forms

-- what `plan` leaves and `set` asks for: it is in its ranges, which `plan` asks for too, nothing refuses it, and there is room for it
pub record IsReadyToSet (c : Configured) (next : Proposal) : Type 0 where
  pub sound : IsSoundProposal next
  pub fault : fault_of c.registry next ≡ None
  pub room : HasPlace c next
