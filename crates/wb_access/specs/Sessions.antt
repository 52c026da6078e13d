-- Sessions: which one a caller shows, how long they last, and which stand after a login.
use Rattle.std.specs.Prelude.{ℕ, ◌+◌, ◌==◌, ◌&&◌, Bool, false, nat_lt, List, [], ◌∷◌, ◌++◌, if◌then◌else◌, find, count_by, Option, None}
use Rattle.wb_list.specs.Keyed.{without_first}
use Rattle.wb_base.specs.Secrets.{digest, same_digest}
use Rattle.wb_base.specs.declared.callers.Presented.{Presented}
use Rattle.wb_base.specs.declared.callers.Presented.TheVariants as presented
use Rattle.wb_base.specs.declared.callers.Principal.{Principal}
use Rattle.wb_base.specs.declared.callers.Principal.TheVariants.{User, Report}
use Rattle.wb_base.specs.declared.words.Digest.{Digest}
use Rattle.wb_base.specs.declared.words.Salt.{Salt}
use Rattle.wb_access.specs.declared.sessions.Session.{Session}

-- two principals are the same
abbrev pub same_principal : Principal → Principal → Bool
same_principal (User t u) (User s v) = (t == s) && (u == v)
same_principal (Report t n) (Report s m) = (t == s) && (n == m)
same_principal _ _ = false

-- a session is of the principal
abbrev pub is_of : Principal → Session → Bool
is_of principal session = same_principal session.principal principal

-- a session lasts 14,400 seconds
abbrev pub lasts : ℕ → Session → Bool
lasts now session = nat_lt now (session.at + 14_400)

-- a session is the tenant's, has the digest, and has not ended
abbrev pub is_shown : ℕ → Digest → ℕ → Session → Bool
is_shown tenant digest now session = (session.tenant == tenant) && (same_digest session.digest digest && lasts now session)

-- a session is that of the turn, the tenant's, has the digest, and has not ended
abbrev pub is_standing : ℕ → ℕ → Digest → ℕ → Session → Bool
is_standing tenant turn digest now session = (session.turn == turn) && is_shown tenant digest now session

-- the session of a tenant that a caller shows by its turn and its secret
abbrev pub session_shown : ℕ → Salt → Presented → ℕ → List Session → Option Session
session_shown tenant salt presented.None now sessions = None
session_shown tenant salt presented.Bad now sessions = None
session_shown tenant salt (presented.Token turn secret) now sessions = find (is_standing tenant turn (digest salt secret) now) sessions

-- the sessions after a login: of eight of its principal the oldest goes first
abbrev pub opened : List Session → Session → List Session
opened sessions session =
    (if nat_lt (count_by (is_of session.principal) sessions) 8 then sessions else without_first (is_of session.principal) sessions) ++ session ∷ []
