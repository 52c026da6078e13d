-- What a request may do, and what it does where that hangs on the registry, the caller, or the trail of the report that it is on.
use Rattle.std.specs.Prelude.{ℕ, if◌then◌else◌, List, Option, Some, None}
use Rattle.std.specs.Option.{option_map_or}
use Rattle.wb_base.specs.declared.callers.Presented.{Presented}
use Rattle.wb_base.specs.declared.callers.Presented.TheVariants as presented
use Rattle.wb_base.specs.declared.callers.Role.{Role}
use Rattle.wb_base.specs.declared.callers.Role.TheVariants as roles
use Rattle.wb_base.specs.Days.{day_of}
use Rattle.wb_model.specs.declared.access.AccessRequest.{AccessRequest}
use Rattle.wb_model.specs.declared.act.Act.{Act}
use Rattle.wb_model.specs.declared.act.Act.TheVariants as acts
use Rattle.wb_model.specs.declared.act.Move.TheVariants as moves
use Rattle.wb_model.specs.declared.command.Decision.{Decision}
use Rattle.wb_model.specs.declared.entry.Entry.{Entry}
use Rattle.wb_model.specs.declared.registry.ContextItem.{ContextItem}
use Rattle.wb_model.specs.declared.registry.FormItem.{FormItem}
use Rattle.wb_model.specs.declared.registry.UserItem.{UserItem}
use Rattle.wb_model.specs.Access.{requests, request_at}
use Rattle.wb_model.specs.Trails as trails
use Rattle.wb_model.specs.Tables.{Registry, Who, TheUser, TheReporter, user, context, disablings}
use Rattle.wb_model.specs.AskingForms.{open_form, form_of_trail}
use Rattle.wb_model.specs.Settings.{Proposal}
use Rattle.wb_model.specs.Changes.{TurnContext}
use Rattle.wb_model.specs.Doings.{Doing, Acts, Moves, may_read, retention_of, decision_move}

-- ---- what it may be

-- what is shown that is no single report
pub data View : Type 0 where
  OfHealth : View
  -- a tenant's name and open contexts
  OfTenant : View
  OfContext : ContextItem → FormItem → View
  -- the reports that the caller reads
  OfReports : View
  -- what is due of them
  OfDues : View
  -- all requests for an identity
  OfRequests : View
  -- all that the tenant is set up with
  OfConfiguration : View

-- what is shown of a report
pub data Part : Type 0 where
  ToReader : Part
  ToReporter : Part
  -- its identity answers
  TheIdentity : Part

pub data Effect : Type 0 where
  -- what the request names is not there
  Misses : Effect
  -- it looks, and changes nothing
  Looks : View → Effect
  -- it reads of the report that it is on
  Reads : Part → Effect
  -- an act, or a move with the requests for the identity, on the report that it is on
  Writes : Doing → Effect
  -- the report that it is on goes
  Erases : Effect
  -- a report begins in this context, on this form
  Submits : ContextItem → FormItem → Effect
  -- its caller's session begins in this role
  Comes : Role → Effect
  -- its caller's session ends, which was made at this turn
  Goes : ℕ → Effect
  -- a setting of the tenant of this number
  Sets : ℕ → Proposal → Effect

-- ---- what it does, by the tables

-- the caller's number as a user, 0 for a reporter and for nobody
abbrev pub caller : Option Who → ℕ
caller (Some (TheUser u)) = u
caller (Some (TheReporter n)) = 0
caller None = 0

-- who logs in: an enabled user, as the target knows, or a report's reporter
abbrev pub comes : Option Who → List UserItem → Effect
comes (Some (TheUser u)) users = option_map_or (λ (x : UserItem). Comes x.role) (user u users) Misses
comes (Some (TheReporter n)) users = Comes roles.Reporter
comes None users = Misses

-- who logs out presents the session that ends
abbrev pub goes : Presented → Effect
goes (presented.Token turn secret) = Goes turn
goes presented.None = Misses
goes presented.Bad = Misses

-- what is done with a context and the form in which it asks, where both are there
abbrev pub with_form : (ContextItem → FormItem → Effect) → Option ContextItem → Option FormItem → Effect
with_form does None form = Misses
with_form does (Some c) None = Misses
with_form does (Some c) (Some form) = does c form

-- with an open context
abbrev pub in_open : (ContextItem → FormItem → Effect) → ℕ → Registry → Effect
in_open does c g = with_form does (context c g.contexts) (open_form (context c g.contexts) g.forms)

-- ---- what a command does

-- by its turn, the registry, its caller, the session that it presents, and the trail of the report that it is on
abbrev pub Does : Type 0
Does = TurnContext → Registry → Option Who → Presented → List Entry → Effect

abbrev pub looks : View → Does
looks view at g who s trail = Looks view

abbrev pub reads : Part → Does
reads part at g who s trail = Reads part

abbrev pub writes : Act → Does
writes act at g who s trail = Writes (Acts act)

abbrev pub erases : Does
erases at g who s trail = Erases

abbrev pub sets : ℕ → Proposal → Does
sets t proposal at g who s trail = Sets t proposal

abbrev pub logs_in : Does
logs_in at g who s trail = comes who g.users

abbrev pub logs_out : Does
logs_out at g who s trail = goes s

abbrev pub with_open : ℕ → (ContextItem → FormItem → Effect) → Does
with_open c does at g who s trail = in_open does c g

abbrev pub gives_identity : Does
gives_identity at g who s trail = option_map_or (λ form. Writes (Acts acts.Identity)) (form_of_trail trail g.forms) Misses

abbrev pub acknowledges : Does
acknowledges at g who s trail = Writes (Acts (acts.Acknowledge (day_of at.time g.settings.offset)))

abbrev pub shares : ℕ → Does
shares reader at g who s trail = if may_read (user reader g.users) then Writes (Acts (acts.Share reader)) else Misses

abbrev pub transfers : ℕ → Does
transfers c at g who s trail = option_map_or (λ (x : ContextItem). Writes (Acts (acts.Transfer c x.is_open x.recipients))) (context c g.contexts) Misses

abbrev pub postpones : Does
postpones at g who s trail = Writes (Acts (acts.Postpone (day_of at.time g.settings.offset) (retention_of (context (trails.context trail) g.contexts))))

abbrev pub extends : List ℕ → Does
extends reason at g who s trail = Writes (Acts (acts.Extend reason g.settings.external))

abbrev pub asks : List ℕ → Does
asks reason at g who s trail = Writes (Moves (moves.Ask reason (disablings (caller who) g.users)))

abbrev pub decides : ℕ → Decision → List ℕ → Option (List ℕ) → Does
decides k decision reason withhold at g who s trail = option_map_or (λ (r : AccessRequest). Writes (Moves (decision_move k (disablings r.by g.users) g.settings.notice_days reason withhold decision))) (request_at k (requests trail)) Misses
