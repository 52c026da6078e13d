-- Who calls a command on a report has the role that the command needs.
use Rattle.std.proofs.Common.{◌≡◌, ℕ, Bool, true, false, cond, List, Option, Some, None, refl, subst, arith}
use Rattle.std.specs.Prelude.{◌&&◌, ◌==◌}
use Rattle.std.specs.List.{list_all}
use Rattle.std.proofs.lemmas.Bool.Decides.{nat_tests}
use Rattle.wb_base.specs.declared.callers.Presented.{Presented}
use Rattle.wb_base.specs.declared.callers.Presented.TheVariants as presented
use Rattle.wb_base.specs.declared.callers.Role.{Role}
use Rattle.wb_base.specs.declared.words.Salt.{Salt}
use Rattle.wb_base.specs.Secrets.{digest, same_digest}
use Rattle.wb_model.specs.declared.body.Told.{Told}
use Rattle.wb_model.specs.declared.command.Command.{Command}
use Rattle.wb_model.specs.declared.command.Command.TheVariants as commands
use Rattle.wb_model.specs.declared.registry.UserItem.{UserItem}
use Rattle.wb_model.specs.Commands.{Right, Free, has_right, Need, Anyone, Any_session, Own, Staff, Names, need}
use Rattle.wb_model.specs.Tables.{Plain, Case, Session, Who, TheUser, TheReporter, user, user_named, report, session, with_receipt, same_role}
use Rattle.wb_model.specs.Targets.{Target, Nobody, Alone, On, finds, named_case, staff, user_target, own_case, reporter_target, some_user_target, who_target, session_target, by_password, by_receipt, anonymous, needed_target, target}
use Rattle.wb_model.specs.Refusals.{not_found, wrong_role, wrong_right, bad_login}
use Rattle.wb_model.specs.Readable.{is_of_role, has_role, is_right_session}
use Rattle.wb_model.proofs.Found.{Held, find_held, find_true}
use Rattle.wb_model.proofs.ItemPuts.{held_all, role_is}

-- who calls has the role
abbrev pub is_caller : List UserItem → Role → Who → Bool
is_caller users role (TheUser u) = is_of_role users role u
is_caller users role (TheReporter n) = false

-- the caller on a report has the role that its need names, and who is alone is a user that is there, or nobody
abbrev pub Roles : List UserItem → Need → Target → Type 0
Roles users (Names role right n) (On who c) = is_caller users role who ≡ true
Roles users k (Alone (Some (TheReporter n))) = ⊥
Roles users k t = Unit {0}

none_called : (users : List UserItem) (k : Need) (x : Told) → Roles users k (Nobody x)
none_called users (Names role right n) x = tt
none_called users Anyone x = tt
none_called users Any_session x = tt
none_called users Own x = tt
none_called users (Staff role) x = tt

alone_called : (users : List UserItem) (k : Need) (u : ℕ) → Roles users k (Alone (Some (TheUser u)))
alone_called users (Names role right n) u = tt
alone_called users Anyone u = tt
alone_called users Any_session u = tt
alone_called users Own u = tt
alone_called users (Staff role) u = tt

named_called : (users : List UserItem) (role has : Role) (right : Right) (n u : ℕ) (o : Option Case) → is_of_role users role u ≡ true → Roles users (Names role right n) (named_case has u o)
named_called users role has right n u None is = tt
named_called users role has right n u (Some c) is = by (finds has u c)
  where
    by : (b : Bool) → Roles users (Names role right n) (cond b (On (TheUser u) c) (Nobody not_found))
    by true = is
    by false = tt

staff_called : (users : List UserItem) (k : Need) (has role : Role) (right : Right) (x : UserItem) (t : Target) → (same_role has role ≡ true → Roles users k t) → Roles users k (staff has role right x t)
staff_called users k has role right x t h = by (same_role has role) refl (has_right right x.may)
  where
    by : (a : Bool) → same_role has role ≡ a → (b : Bool) → Roles users k (cond a (cond b t (Nobody wrong_right)) (Nobody wrong_role))
    by true is true = h is
    by true is false = none_called users k wrong_right
    by false is b = none_called users k wrong_role

user_called : (p : Plain) (has : Role) (x : UserItem) (k : Need) → is_of_role p.registry.users has x.id ≡ true → Roles p.registry.users k (user_target p has x k)
user_called p has x Anyone is = tt
user_called p has x Any_session is = tt
user_called p has x Own is = tt
user_called p has x (Staff role) is = staff_called p.registry.users (Staff role) has role Free x (Alone (Some (TheUser x.id))) (λ same. tt)
user_called p has x (Names role right n) is = staff_called p.registry.users (Names role right n) has role right x (named_case role x.id (report n p.cases))
    (λ same. named_called p.registry.users role role right n x.id (report n p.cases) (subst (λ r. is_of_role p.registry.users r x.id ≡ true) (role_is has role same) is))

some_called : (p : Plain) (has : Role) (u : ℕ) (k : Need) → is_of_role p.registry.users has u ≡ true → Roles p.registry.users k (some_user_target p has k (user u p.registry.users))
some_called p has u k is = by (user u p.registry.users) refl
  where
    by : (o : Option UserItem) → user u p.registry.users ≡ o → Roles p.registry.users k (some_user_target p has k o)
    by None e = none_called p.registry.users k _
    by (Some x) e = user_called p has x k (let own : (x.id == u) ≡ true = find_true (λ (y : UserItem). y.id == u) p.registry.users x e in let same : u ≡ x.id = grind (arith, nat_tests, own) in subst (λ v. is_of_role p.registry.users has v ≡ true) same is)

own_called : (users : List UserItem) (n : ℕ) (o : Option Case) → Roles users Own (own_case n o) × Roles users Any_session (own_case n o)
own_called users n None = (tt, tt)
own_called users n (Some c) = (tt, tt)

reporter_called : (p : Plain) (n : ℕ) (k : Need) → Roles p.registry.users k (reporter_target p n k)
reporter_called p n Any_session = (own_called p.registry.users n (report n p.cases)).1
reporter_called p n Own = (own_called p.registry.users n (report n p.cases)).0
reporter_called p n Anyone = tt
reporter_called p n (Staff role) = tt
reporter_called p n (Names role right m) = tt

session_called : (p : Plain) (k : Need) (o : Option Session) → ((s : Session) → o ≡ Some s → has_role p.registry.users s.role s.who ≡ true) → Roles p.registry.users k (session_target p k o)
session_called p k None right = none_called p.registry.users k _
session_called p k (Some s) right = by s.who (right s refl)
  where
    by : (w : Who) → has_role p.registry.users s.role w ≡ true → Roles p.registry.users k (who_target p s.role k w)
    by (TheUser u) is = some_called p s.role u k is
    by (TheReporter n) is = reporter_called p n k

found_session : (salt : Salt) (q : Presented) (ss : List Session) (s : Session) → session salt q ss ≡ Some s → Held s ss
found_session salt presented.None ss s e = absurd (grind (arith, e))
found_session salt presented.Bad ss s e = absurd (grind (arith, e))
found_session salt (presented.Token turn secret) ss s e = find_held (λ (z : Session). (z.turn == turn) && same_digest z.digest (digest salt secret)) ss s e

by_password_called : (users : List UserItem) (salt : Salt) (password : List ℕ) (o : Option UserItem) → Roles users Anyone (by_password salt password o)
by_password_called users salt password None = tt
by_password_called users salt password (Some x) = by (x.enabled && same_digest x.secret (digest salt password))
  where
    by : (b : Bool) → Roles users Anyone (cond b (Alone (Some (TheUser x.id))) (Nobody bad_login))
    by true = tt
    by false = tt

by_receipt_called : (users : List UserItem) (o : Option Case) → Roles users Anyone (by_receipt o)
by_receipt_called users None = tt
by_receipt_called users (Some c) = tt

anonymous_called : (p : Plain) (d : Command) → Roles p.registry.users Anyone (anonymous p d)
anonymous_called p (commands.Login t name password) = by_password_called p.registry.users p.registry.settings.salt password (user_named name p.registry.users)
anonymous_called p (commands.ReceiptLogin t receipt) = by_receipt_called p.registry.users (with_receipt (digest p.registry.settings.salt receipt) p.cases)
anonymous_called p _ = tt

needed_called : (p : Plain) (s : Presented) (d : Command) (k : Need) → list_all (is_right_session p.registry.users) p.sessions ≡ true → Roles p.registry.users k (needed_target p s d k)
needed_called p s d k right = by k
  where
    known : (z : Session) → session p.registry.settings.salt s p.sessions ≡ Some z → has_role p.registry.users z.role z.who ≡ true
    known z e = held_all (is_right_session p.registry.users) p.sessions z right (found_session p.registry.settings.salt s p.sessions z e)

    by : (k : Need) → Roles p.registry.users k (needed_target p s d k)
    by Anyone = anonymous_called p d
    by Any_session = session_called p Any_session (session p.registry.settings.salt s p.sessions) known
    by Own = session_called p Own (session p.registry.settings.salt s p.sessions) known
    by (Staff role) = session_called p (Staff role) (session p.registry.settings.salt s p.sessions) known
    by (Names role right n) = session_called p (Names role right n) (session p.registry.settings.salt s p.sessions) known

pub target_roles : (p : Plain) (s : Presented) (d : Command) → list_all (is_right_session p.registry.users) p.sessions ≡ true → Roles p.registry.users (need d) (target p s d)
target_roles p s d right = needed_called p s d (need d) right
