-- The host of several tenants: each is a host of its own, and time and turns are one.
use Rattle.std.specs.Prelude.{◌≡◌, ◌⊎◌, ℕ, ◌+◌, ◌==◌, ◌&&◌, max, Bool, true, false, if◌then◌else◌, List, [], ◌∷◌, map, find, Option, Some, None}
use Rattle.wb_model.specs.declared.body.Told.{Told}
use Rattle.wb_model.specs.Commands.{tenant_of, is_submission}
use Rattle.wb_model.specs.Json.{told}
use Rattle.wb_model.specs.Refusals.{not_found}
use Rattle.wb_model.specs.ShortViews.{health_view}
use Rattle.wb_model.specs.Requests.{Frame}
use Rattle.wb_model.specs.Host.{Tables, Host, purged, purge_at, ruling_at, reply_to, host_after}
use Rattle.wb_model.specs.Alike.{TablesAlike, is_reader, LaterAlike, SubmissionsAlike, is_refused}

abbrev pub tenant_at : Frame → ℕ
tenant_at f = tenant_of f.asked.command

-- ---- the hosts of all tenants

pub record Tenancy : Type 0 where
  pub id : ℕ
  pub tables : Tables

pub record Hosts : Type 0 where
  pub turns : ℕ
  pub now : ℕ
  pub list : List Tenancy

-- one tenant's host
abbrev pub one : ℕ → ℕ → Tables → Host
one turns now t = record { turns = turns; now = now; tables = t }

abbrev pub has_id : ℕ → Tenancy → Bool
has_id t x = x.id == t

-- the host serves
unfoldable pub healthy : Told
healthy = told 200 health_view

-- the reply where the tenant of a number is not there; 0 stands for none that is named, since the host's health is asked
abbrev pub without_tenant : ℕ → Told
without_tenant t = if t == 0 then healthy else not_found

abbrev pub tenancy_reply : Hosts → Frame → Option Tenancy → Told
tenancy_reply h f None = without_tenant (tenant_at f)
tenancy_reply h f (Some x) = reply_to (one h.turns h.now x.tables) f

-- the reply of a turn: that of the tenant that it names
abbrev pub hosts_reply : Hosts → Frame → Told
hosts_reply h f = tenancy_reply h f (find (has_id (tenant_at f)) h.list)

-- the tenant that the turn names makes it, and each other purges at its time
abbrev pub one_after : ℕ → ℕ → Frame → Tenancy → Tenancy
one_after turns now f x = record { id = x.id; tables = if x.id == tenant_at f then (host_after (one turns now x.tables) f).tables else purged (max now f.moment) x.tables }

-- the hosts after a turn
abbrev pub hosts_after : Hosts → Frame → Hosts
hosts_after h f = record { turns = h.turns + 1; now = max h.now f.moment; list = map (one_after h.turns h.now f) h.list }

-- the hosts after a turn that was answered with want of memory or a keeper's fault
abbrev pub hosts_lost : Hosts → Frame → Hosts
hosts_lost h f = record { turns = h.turns + 1; now = max h.now f.moment; list = h.list }

-- ---- alike but for the identity answers of report r of tenant t

-- alike where they are of the report's tenant, and else equal
abbrev pub AlikeWhere : Bool → ℕ → Tables → Tables → Type 0
AlikeWhere true r x y = TablesAlike r x y
AlikeWhere false r x y = x ≡ y

abbrev pub AllAlike : ℕ → ℕ → List Tenancy → List Tenancy → Type 0
AllAlike t r [] [] = Unit {0}
AllAlike t r (x ∷ xs) [] = ⊥
AllAlike t r [] (y ∷ ys) = ⊥
AllAlike t r (x ∷ xs) (y ∷ ys) = ((x.id ≡ y.id) × AlikeWhere (x.id == t) r x.tables y.tables) × AllAlike t r xs ys

pub record AllHostsAlike (t r : ℕ) (h k : Hosts) : Type 0 where
  pub turns : h.turns ≡ k.turns
  pub now : h.now ≡ k.now
  pub list : AllAlike t r h.list k.list

-- each tenancy with this id, of which a host has one at most
abbrev pub OnTenant : ℕ → List Tenancy → (Tables → Type 0) → Type 0
OnTenant t [] P = Unit {0}
OnTenant t (x ∷ xs) P = (x.id ≡ t → P x.tables) × OnTenant t xs P

-- a later place: equal, or two identities of report r of tenant t
abbrev pub OneLaterAlike : ℕ → ℕ → Hosts → Frame → Frame → Type 0
OneLaterAlike t r h a b = (a ≡ b) ⊎ ((tenant_at a ≡ t) × (tenant_at b ≡ t) × OnTenant t h.list (λ x. LaterAlike r (one h.turns h.now x) a b) × (a.moment ≡ b.moment))

abbrev pub is_reader_in : ℕ → ℕ → Hosts → Frame → Option Tenancy → Bool
is_reader_in t r h f None = false
is_reader_in t r h f (Some x) = (x.id == t) && is_reader r (one h.turns h.now x.tables) f

-- the turn's request is one of the readers of report r of tenant t
abbrev pub is_report_reader : ℕ → ℕ → Hosts → Frame → Bool
is_report_reader t r h f = is_reader_in t r h f (find (has_id (tenant_at f)) h.list)

abbrev pub refused_in : Hosts → Frame → Option Tenancy → Bool
refused_in h f None = true
refused_in h f (Some x) = is_refused (ruling_at (one h.turns h.now x.tables) f)

-- the request is a submission to tenant t
abbrev pub SubmitsTo : ℕ → Frame → Type 0
SubmitsTo t f = (is_submission f.asked.command ≡ true) × (tenant_at f ≡ t)

-- two submissions to tenant t that are alike, of which the first draws the number r
abbrev pub FirstAlike : ℕ → ℕ → Hosts → Frame → Frame → Type 0
FirstAlike t r h a b = SubmitsTo t a × SubmitsTo t b × OnTenant t h.list (λ x. (r ≡ x.plain.numbering.last + 1) × SubmissionsAlike (purge_at (one h.turns h.now x) a).plain a b) × (a.moment ≡ b.moment)
