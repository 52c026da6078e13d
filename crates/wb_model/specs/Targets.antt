-- Whom and what a request is about: session, role, right and thing, in this order.
use Rattle.std.specs.Prelude.{ℕ, Bool, true, ◌&&◌, if◌then◌else◌, List, [], Option, Some, None}
use Rattle.wb_base.specs.declared.callers.Role.{Role}
use Rattle.wb_base.specs.declared.callers.Role.TheVariants.{Custodian}
use Rattle.wb_base.specs.declared.callers.Presented.{Presented}
use Rattle.wb_model.specs.declared.body.Told.{Told}
use Rattle.wb_model.specs.declared.entry.Entry.{Entry}
use Rattle.wb_model.specs.declared.command.Command.{Command}
use Rattle.wb_model.specs.declared.command.Command.TheVariants as commands
use Rattle.wb_model.specs.declared.registry.UserItem.{UserItem}
use Rattle.wb_base.specs.declared.words.Salt.{Salt}
use Rattle.wb_base.specs.Secrets.{digest, same_digest}
use Rattle.wb_model.specs.Commands.{Right, Free, has_right, Need, Anyone, Any_session, Own, Staff, Names, need}
use Rattle.wb_model.specs.Trails.{reads}
use Rattle.wb_model.specs.Tables.{same_role, Plain, Case, Session, Who, TheUser, TheReporter, user, user_named, report, session, with_receipt}
use Rattle.wb_model.specs.Refusals.{not_found, no_session, wrong_role, wrong_right, bad_login}

-- ---- the target

pub data Target : Type 0 where
  -- refused
  Nobody : Told → Target
  -- on no report, by this caller
  Alone : Option Who → Target
  -- on a live report that the caller finds
  On : Who → Case → Target

-- a recipient finds the reports that it reads, a custodian every live one
abbrev pub finds : Role → ℕ → Case → Bool
finds Custodian u c = true
finds role u c = reads u c.trail

abbrev pub named_case : Role → ℕ → Option Case → Target
named_case role u None = Nobody not_found
named_case role u (Some c) = if finds role u c then On (TheUser u) c else Nobody not_found

-- the target of a user whose session has this role: the role, then the right, then the thing
abbrev pub staff : Role → Role → Right → UserItem → Target → Target
staff has role right x t = if same_role has role then (if has_right right x.may then t else Nobody wrong_right) else Nobody wrong_role

abbrev pub user_target : Plain → Role → UserItem → Need → Target
user_target p has x Anyone = Alone (Some (TheUser x.id))
user_target p has x Any_session = Alone (Some (TheUser x.id))
user_target p has x Own = Nobody wrong_role
user_target p has x (Staff role) = staff has role Free x (Alone (Some (TheUser x.id)))
user_target p has x (Names role right n) = staff has role right x (named_case role x.id (report n p.cases))

-- the report of a reporter
abbrev pub own_case : ℕ → Option Case → Target
own_case n None = Nobody no_session
own_case n (Some c) = On (TheReporter n) c

abbrev pub reporter_target : Plain → ℕ → Need → Target
reporter_target p n Any_session = own_case n (report n p.cases)
reporter_target p n Own = own_case n (report n p.cases)
reporter_target p n _ = Nobody wrong_role

abbrev pub some_user_target : Plain → Role → Need → Option UserItem → Target
some_user_target p has k None = Nobody no_session
some_user_target p has k (Some x) = user_target p has x k

abbrev pub who_target : Plain → Role → Need → Who → Target
who_target p has k (TheUser u) = some_user_target p has k (user u p.registry.users)
who_target p has k (TheReporter n) = reporter_target p n k

abbrev pub session_target : Plain → Need → Option Session → Target
session_target p k None = Nobody no_session
session_target p k (Some s) = who_target p s.role k s.who

-- who logs in by a name and a password: an enabled user
abbrev pub by_password : Salt → List ℕ → Option UserItem → Target
by_password salt password None = Nobody bad_login
by_password salt password (Some x) = if x.enabled && same_digest x.secret (digest salt password) then Alone (Some (TheUser x.id)) else Nobody bad_login

-- and by a receipt: a live report's reporter
abbrev pub by_receipt : Option Case → Target
by_receipt None = Nobody bad_login
by_receipt (Some c) = On (TheReporter c.number) c

-- a request that needs no session
abbrev pub anonymous : Plain → Command → Target
anonymous p (commands.Login t name password) = by_password p.registry.settings.salt password (user_named name p.registry.users)
anonymous p (commands.ReceiptLogin t receipt) = by_receipt (with_receipt (digest p.registry.settings.salt receipt) p.cases)
anonymous p _ = Alone None

abbrev pub needed_target : Plain → Presented → Command → Need → Target
needed_target p presented command Anyone = anonymous p command
needed_target p presented command k = session_target p k (session p.registry.settings.salt presented p.sessions)

-- the target of a request
abbrev pub target : Plain → Presented → Command → Target
target p presented command = needed_target p presented command (need command)

-- the trail of the report that a request is on
abbrev pub trail_at : Target → List Entry
trail_at (Nobody told) = []
trail_at (Alone who) = []
trail_at (On who c) = c.trail
