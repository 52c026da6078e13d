-- Who may not do what is asked is told so: no such reply is that of a turn that is not made.
use Rattle.std.proofs.Common.{◌≡◌, ℕ, Bool, true, false, cond, List, Option, Some, None, refl, arith}
use Rattle.std.specs.Prelude.{◌&&◌, ◌||◌}
use Rattle.wb_base.specs.declared.callers.Presented.{Presented}
use Rattle.wb_base.specs.declared.callers.Role.{Role}
use Rattle.wb_base.specs.declared.words.Salt.{Salt}
use Rattle.wb_model.specs.declared.body.Told.{Told}
use Rattle.wb_model.specs.declared.command.Command.{Command}
use Rattle.wb_model.specs.declared.command.Command.TheVariants as commands
use Rattle.wb_model.specs.declared.registry.UserItem.{UserItem}
use Rattle.wb_model.specs.Commands.{Need, Anyone, Any_session, Own, Staff, Names, has_right}
use Rattle.wb_base.specs.Secrets.{digest, same_digest}
use Rattle.wb_model.specs.Playing.{is_loss}
use Rattle.wb_model.specs.Refusals.{is_turns_spent, not_found, no_session, wrong_role, wrong_right, bad_login}
use Rattle.wb_model.specs.Tables.{Plain, Case, Session, Who, TheUser, TheReporter, user, user_named, report, session, with_receipt, same_role}
use Rattle.wb_model.specs.Targets.{Target, Nobody, Alone, On, finds, named_case, user_target, own_case, reporter_target, some_user_target, who_target, session_target, by_password, by_receipt, anonymous, needed_target}
use Rattle.wb_model.specs.Tenants.{healthy}

-- the reply of a turn that is not made: it is lost, or after the host's last
abbrev pub is_unmade : Told → Bool
is_unmade told = is_loss told.status || is_turns_spent told

abbrev pub Served : Told → Type 0
Served told = is_unmade told ≡ false

pub not_lost : (told : Told) → Served told → is_loss told.status ≡ false
not_lost told served = by (is_loss told.status) served
  where
    by : (b : Bool) → (b || is_turns_spent told) ≡ false → b ≡ false
    by true e = absurd (grind (arith, e))
    by false e = refl

pub served_not_found : Served not_found
unfolding not_found
served_not_found = refl

pub served_no_session : Served no_session
unfolding no_session
served_no_session = refl

pub served_role : Served wrong_role
unfolding wrong_role
served_role = refl

pub served_right : Served wrong_right
unfolding wrong_right
served_right = refl

pub served_bad_login : Served bad_login
unfolding bad_login
served_bad_login = refl

pub served_healthy : Served healthy
unfolding healthy
served_healthy = refl

abbrev pub TargetServed : Target → Type 0
TargetServed (Nobody refusal) = Served refusal
TargetServed _ = Unit {0}

pub staff_served : (a b : Bool) (t : Target) → TargetServed t → TargetServed (cond a (cond b t (Nobody wrong_right)) (Nobody wrong_role))
staff_served true true t h = h
staff_served true false t h = served_right
staff_served false b t h = served_role

pub named_served : (role : Role) (u : ℕ) (o : Option Case) → TargetServed (named_case role u o)
named_served role u None = served_not_found
named_served role u (Some c) = by (finds role u c)
  where
    by : (b : Bool) → TargetServed (cond b (On (TheUser u) c) (Nobody not_found))
    by true = tt
    by false = served_not_found

pub own_served : (n : ℕ) (o : Option Case) → TargetServed (own_case n o)
own_served n None = served_no_session
own_served n (Some c) = tt

pub user_served : (p : Plain) (has : Role) (x : UserItem) (k : Need) → TargetServed (user_target p has x k)
user_served p has x Anyone = tt
user_served p has x Any_session = tt
user_served p has x Own = served_role
user_served p has x (Staff role) = staff_served (same_role has role) true (Alone (Some (TheUser x.id))) tt
user_served p has x (Names role right n) = staff_served (same_role has role) (has_right right x.may) (named_case role x.id (report n p.cases)) (named_served role x.id (report n p.cases))

pub some_served : (p : Plain) (has : Role) (k : Need) (o : Option UserItem) → TargetServed (some_user_target p has k o)
some_served p has k None = served_no_session
some_served p has k (Some x) = user_served p has x k

pub reporter_served : (p : Plain) (n : ℕ) (k : Need) → TargetServed (reporter_target p n k)
reporter_served p n Any_session = own_served n (report n p.cases)
reporter_served p n Own = own_served n (report n p.cases)
reporter_served p n _ = served_role

pub who_served : (p : Plain) (has : Role) (k : Need) (w : Who) → TargetServed (who_target p has k w)
who_served p has k (TheUser u) = some_served p has k (user u p.registry.users)
who_served p has k (TheReporter n) = reporter_served p n k

pub session_served : (p : Plain) (k : Need) (o : Option Session) → TargetServed (session_target p k o)
session_served p k None = served_no_session
session_served p k (Some s) = who_served p s.role k s.who

pub by_password_served : (salt : Salt) (password : List ℕ) (o : Option UserItem) → TargetServed (by_password salt password o)
by_password_served salt password None = served_bad_login
by_password_served salt password (Some x) = by (x.enabled && same_digest x.secret (digest salt password))
  where
    by : (b : Bool) → TargetServed (cond b (Alone (Some (TheUser x.id))) (Nobody bad_login))
    by true = tt
    by false = served_bad_login

pub by_receipt_served : (o : Option Case) → TargetServed (by_receipt o)
by_receipt_served None = served_bad_login
by_receipt_served (Some c) = tt

pub anonymous_served : (p : Plain) (d : Command) → TargetServed (anonymous p d)
anonymous_served p (commands.Login t name password) = by_password_served p.registry.settings.salt password (user_named name p.registry.users)
anonymous_served p (commands.ReceiptLogin t receipt) = by_receipt_served (with_receipt (digest p.registry.settings.salt receipt) p.cases)
anonymous_served p _ = tt

pub needed_served : (p : Plain) (presented : Presented) (d : Command) (k : Need) → TargetServed (needed_target p presented d k)
needed_served p presented d Anyone = anonymous_served p d
needed_served p presented d Any_session = session_served p Any_session (session p.registry.settings.salt presented p.sessions)
needed_served p presented d Own = session_served p Own (session p.registry.settings.salt presented p.sessions)
needed_served p presented d (Staff role) = session_served p (Staff role) (session p.registry.settings.salt presented p.sessions)
needed_served p presented d (Names role right n) = session_served p (Names role right n) (session p.registry.settings.salt presented p.sessions)
