-- The sessions of a tenant as they are kept, and what they stand for.
use Rattle.std.specs.Prelude.{◌≡◌, ◌<◌, ◌≤◌, ℕ, true, List, [], ◌∷◌, count_by}
use Rattle.wb_base.specs.declared.callers.Principal.{Principal}
use Rattle.wb_base.specs.declared.callers.Principal.TheVariants as principals
use Rattle.wb_access.specs.Sessions.{is_of}
use Rattle.wb_access.specs.declared.sessions.Session.{Session as KeptSession}
use Rattle.wb_model.specs.Past.{who_of}
use Rattle.wb_model.specs.Tables.{Case, Session, Who, TheUser, TheReporter, stays}
use Rattle.wb_tables.specs.declared.tenancy.Login.{Login}
use Rattle.wb_tables.specs.declared.tenancy.Who.{Who as KeptWho}
use Rattle.wb_tables.specs.declared.tenancy.Who.TheVariants as kept

-- what is seen of the table: whose sessions they are, the sessions, and the room for more
pub record Logins : Type 0 where
  pub tenant : ℕ
  pub items : List KeptSession
  pub spare : ℕ

abbrev pub session_of : KeptSession → Session
session_of s = record { turn = s.turn; digest = s.digest; role = s.role; who = who_of s.principal; at = s.at }

-- who logs in, and the session that a login makes
abbrev pub who_seen : KeptWho → Who
who_seen (kept.User u) = TheUser u
who_seen (kept.Reporter n) = TheReporter n

abbrev pub login_of : Login → Session
login_of l = record { turn = l.turn; digest = l.digest; role = l.role; who = who_seen l.who; at = l.at }

abbrev pub tenant_in : Principal → ℕ
tenant_in (principals.User t u) = t
tenant_in (principals.Report t n) = t

-- a session of a tenant's own user or reporter
pub record IsOf (tenant : ℕ) (s : KeptSession) : Type 0 where
  pub session : s.tenant ≡ tenant
  pub caller : tenant_in s.principal ≡ tenant

abbrev pub AreOf : ℕ → List KeptSession → Type 0
AreOf tenant [] = Unit {0}
AreOf tenant (s ∷ ss) = IsOf tenant s × AreOf tenant ss

-- at most eight of each caller
abbrev pub AreFew : List KeptSession → Type 0
AreFew ss = (caller : Principal) → count_by (is_of caller) ss ≤ 8

-- each was made at an earlier turn
abbrev pub AreEarlier : ℕ → List Session → Type 0
AreEarlier turn [] = Unit {0}
AreEarlier turn (s ∷ ss) = (s.turn < turn) × AreEarlier turn ss

-- each reporter who is logged in has a report that is there
abbrev pub AreThere : List Case → List Session → Type 0
AreThere cases [] = Unit {0}
AreThere cases (s ∷ ss) = (stays cases s.who ≡ true) × AreThere cases ss

-- the moments of the logins do not fall, and the first is not before this one
abbrev pub NeverFall : ℕ → List Session → Type 0
NeverFall k [] = Unit {0}
NeverFall k (s ∷ ss) = (k ≤ s.at) × NeverFall s.at ss
