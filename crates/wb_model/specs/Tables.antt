-- One tenant's tables but for identity answers, and their look-ups.
use Rattle.std.specs.Prelude.{ℕ, ◌+◌, ◌==◌, ◌&&◌, nat_lt, not, Bool, true, false, if◌then◌else◌, List, length, filter, find, fold, Option, Some, None, ℤ, int_lt}
use Rattle.std.specs.Ordering.{int_eq}
use Rattle.std.specs.List.{list_any}
use Rattle.std.specs.Option.{option_map_or}
use Rattle.wb_base.specs.declared.callers.Role.{Role}
use Rattle.wb_base.specs.declared.callers.Role.TheVariants as roles
use Rattle.wb_base.specs.declared.callers.Presented.{Presented}
use Rattle.wb_base.specs.declared.callers.Presented.TheVariants as presented
use Rattle.wb_base.specs.declared.words.Digest.{Digest}
use Rattle.wb_base.specs.declared.words.Salt.{Salt}
use Rattle.wb_base.specs.AnswerList.{is_text}
use Rattle.wb_base.specs.Days.{day_of}
use Rattle.wb_model.specs.declared.entry.Entry.{Entry}
use Rattle.wb_model.specs.declared.numbering.Numbering.{Numbering}
use Rattle.wb_model.specs.declared.registry.TenantItem.{TenantItem}
use Rattle.wb_model.specs.declared.registry.UserItem.{UserItem}
use Rattle.wb_model.specs.declared.registry.FormItem.{FormItem}
use Rattle.wb_model.specs.declared.registry.ContextItem.{ContextItem}
use Rattle.wb_base.specs.Secrets.{digest, same_digest}
use Rattle.wb_model.specs.Trails.{receipt, expires}

-- ---- what a tenant is set up with

pub record Registry : Type 0 where
  pub settings : TenantItem
  pub users : List UserItem
  pub forms : List FormItem
  pub contexts : List ContextItem

abbrev pub user : ℕ → List UserItem → Option UserItem
user u users = find (λ x. x.id == u) users

abbrev pub user_named : List ℕ → List UserItem → Option UserItem
user_named name users = find (λ x. is_text x.name name) users

abbrev pub context : ℕ → List ContextItem → Option ContextItem
context c contexts = find (λ x. x.id == c) contexts

-- the newest version of a form: the last, since they stand in the order of their versions
abbrev pub newest_form : ℕ → List FormItem → Option FormItem
newest_form f forms = fold (λ before x. if x.id == f then Some x else before) None forms

abbrev pub same_role : Role → Role → Bool
same_role roles.Reporter roles.Reporter = true
same_role roles.Recipient roles.Recipient = true
same_role roles.Custodian roles.Custodian = true
same_role roles.Admin roles.Admin = true
same_role _ _ = false

-- how often a user was disabled
abbrev pub disablings : ℕ → List UserItem → ℕ
disablings u users = option_map_or (λ x. x.disabled) (user u users) 0

-- ---- reports

-- a report: its number, and its trail
pub record Case : Type 0 where
  pub number : ℕ
  pub trail : List Entry

abbrev pub has_number : ℕ → Case → Bool
has_number n case = case.number == n

abbrev pub report : ℕ → List Case → Option Case
report n cases = find (has_number n) cases

-- the report whose receipt has this digest
abbrev pub has_receipt : Digest → Case → Bool
has_receipt kept case = is_text (receipt case.trail) kept.0

abbrev pub with_receipt : Digest → List Case → Option Case
with_receipt kept cases = find (has_receipt kept) cases

abbrev pub is_there : ℕ → List Case → Bool
is_there n cases = list_any (has_number n) cases

-- a report is live while it has a trail and the tenant's day is before its expiry
abbrev pub is_live : TenantItem → ℕ → Case → Bool
is_live settings now case = not (length case.trail == 0) && int_lt (day_of now settings.offset) (expires case.trail)

-- ---- sessions

-- who a session is of
pub data Who : Type 0 where
  TheUser : ℕ → Who
  TheReporter : ℕ → Who

-- a standing session: the turn that made it, its secret's digest, and its moment
pub record Session : Type 0 where
  pub turn : ℕ
  pub digest : Digest
  pub role : Role
  pub who : Who
  pub at : ℕ

abbrev pub same_who : Who → Who → Bool
same_who (TheUser u) (TheUser v) = u == v
same_who (TheReporter n) (TheReporter m) = n == m
same_who _ _ = false

-- a reporter's session stands as long as its report
abbrev pub stays : List Case → Who → Bool
stays cases (TheUser u) = true
stays cases (TheReporter n) = is_there n cases

-- a session stands for 14,400 seconds
abbrev pub lasts : ℕ → List Case → Session → Bool
lasts now cases s = nat_lt now (s.at + 14_400) && stays cases s.who

-- the session that a request presents, where it stands
abbrev pub session : Salt → Presented → List Session → Option Session
session salt presented.None ss = None
session salt presented.Bad ss = None
session salt (presented.Token turn secret) ss = find (λ s. (s.turn == turn) && same_digest s.digest (digest salt secret)) ss

-- ---- without a report

abbrev pub others : ℕ → List Case → List Case
others r cases = filter (λ c. not (has_number r c)) cases

abbrev pub is_reporter_of : ℕ → Who → Bool
is_reporter_of r who = same_who who (TheReporter r)

abbrev pub sessions_but : ℕ → List Session → List Session
sessions_but r ss = filter (λ s. not (is_reporter_of r s.who)) ss

-- ---- the whole

pub record Plain : Type 0 where
  pub registry : Registry
  pub numbering : Numbering
  -- in the order in which their numbers were drawn
  pub cases : List Case
  -- in the order of their turns
  pub sessions : List Session

-- how many numbers were drawn on a day
abbrev pub drawn_on : ℤ → TenantItem → Numbering → ℕ
drawn_on day settings numbering = if int_eq (day_of numbering.at settings.offset) day then numbering.drawn else 0
