-- The report that an accepted command was on follows from the command and its caller.
use Rattle.std.proofs.Common.{◌≡◌, ℕ, Bool, true, false, cond, eqb, List, Option, Some, None, refl, sym, ap, ◌∙◌, subst, arith, option_map}
use Rattle.std.specs.Prelude.{◌&&◌}
use Rattle.std.proofs.lemmas.Bool.Decides.{nat_tests}
use Rattle.wb_base.specs.declared.callers.Presented.{Presented}
use Rattle.wb_base.specs.declared.callers.Role.{Role}
use Rattle.wb_base.specs.declared.callers.Principal.{Principal}
use Rattle.wb_base.specs.declared.callers.Principal.TheVariants as principals
use Rattle.wb_base.specs.declared.words.Salt.{Salt}
use Rattle.wb_model.specs.declared.body.Told.{Told}
use Rattle.wb_base.specs.Secrets.{digest, same_digest}
use Rattle.wb_model.specs.declared.command.Command.{Command}
use Rattle.wb_model.specs.declared.command.Command.TheVariants as commands
use Rattle.wb_model.specs.declared.registry.UserItem.{UserItem}
use Rattle.wb_model.specs.Refusals.{not_found, wrong_role, wrong_right, bad_login}
use Rattle.wb_model.specs.Tables.{Plain, Case, Session, Who, TheUser, TheReporter, user, user_named, report, has_number, with_receipt, session, same_role}
use Rattle.wb_model.specs.Targets.{Target, Nobody, Alone, On, finds, named_case, user_target, own_case, reporter_target, some_user_target, who_target, session_target, by_password, by_receipt, anonymous, needed_target, target}
use Rattle.wb_model.specs.Commands.{Need, Anyone, Any_session, Own, Staff, Names, need, has_right}
use Rattle.wb_model.specs.Requests.{outline}
use Rattle.wb_model.specs.Past.{named, report_of, who_of}
use Rattle.wb_model.specs.PastTurns.{principal}
use Rattle.wb_model.proofs.Found.{find_true}

-- the place of a command by a caller of tenant t is that of its target
abbrev pub IsPlaced : ℕ → Command → Target → Type 0
IsPlaced t d (Nobody x) = Unit {0}
IsPlaced t d (Alone who) = report_of d (option_map (principal t) who) ≡ None
IsPlaced t d (On who c) = report_of d (Some (principal t who)) ≡ Some c.number

report_number : (n : ℕ) (cs : List Case) (c : Case) → report n cs ≡ Some c → c.number ≡ n
report_number n cs c e = let k : eqb c.number n ≡ true = find_true (has_number n) cs c e in grind (arith, nat_tests, k)

placed_cond : (t : ℕ) (d : Command) (a b : Bool) (to : Target) (x y : Told) → IsPlaced t d to → IsPlaced t d (cond a (cond b to (Nobody x)) (Nobody y))
placed_cond t d true true to x y k = k
placed_cond t d true false to x y k = tt
placed_cond t d false b to x y k = tt

own_placed : (t : ℕ) (d : Command) (n : ℕ) (o : Option Case) → ((c : Case) → o ≡ Some c → c.number ≡ n) → IsPlaced t d (own_case n o)
own_placed t d n None k = tt
own_placed t d n (Some c) k = ap Some (sym (k c refl))

found_placed : (t : ℕ) (d : Command) (b : Bool) (u n : ℕ) (c : Case) → named (need d) ≡ Some n → c.number ≡ n → IsPlaced t d (cond b (On (TheUser u) c) (Nobody not_found))
found_placed t d true u n c e k = e ∙ ap Some (sym k)
found_placed t d false u n c e k = tt

named_placed : (t : ℕ) (d : Command) (role : Role) (u n : ℕ) (o : Option Case) → named (need d) ≡ Some n → ((c : Case) → o ≡ Some c → c.number ≡ n) → IsPlaced t d (named_case role u o)
named_placed t d role u n None e k = tt
named_placed t d role u n (Some c) e k = found_placed t d (finds role u c) u n c e (k c refl)

user_placed : (t : ℕ) (d : Command) (p : Plain) (has : Role) (x : UserItem) (k : Need) → need d ≡ k → IsPlaced t d (user_target p has x k)
user_placed t d p has x Anyone e = ap named e
user_placed t d p has x Any_session e = ap named e
user_placed t d p has x Own e = tt
user_placed t d p has x (Staff role) e = placed_cond t d (same_role has role) true (Alone (Some (TheUser x.id))) wrong_right wrong_role (ap named e)
user_placed t d p has x (Names role right n) e = placed_cond t d (same_role has role) (has_right right x.may) (named_case role x.id (report n p.cases)) wrong_right wrong_role (named_placed t d role x.id n (report n p.cases) (ap named e) (report_number n p.cases))

some_placed : (t : ℕ) (d : Command) (p : Plain) (has : Role) (k : Need) (o : Option UserItem) → need d ≡ k → IsPlaced t d (some_user_target p has k o)
some_placed t d p has k None e = tt
some_placed t d p has k (Some x) e = user_placed t d p has x k e

reporter_placed : (t : ℕ) (d : Command) (p : Plain) (n : ℕ) (k : Need) → IsPlaced t d (reporter_target p n k)
reporter_placed t d p n Any_session = own_placed t d n (report n p.cases) (report_number n p.cases)
reporter_placed t d p n Own = own_placed t d n (report n p.cases) (report_number n p.cases)
reporter_placed t d p n _ = tt

who_placed : (t : ℕ) (d : Command) (p : Plain) (has : Role) (k : Need) (w : Who) → need d ≡ k → IsPlaced t d (who_target p has k w)
who_placed t d p has k (TheUser u) e = some_placed t d p has k (user u p.registry.users) e
who_placed t d p has k (TheReporter n) e = reporter_placed t d p n k

session_placed : (t : ℕ) (d : Command) (p : Plain) (k : Need) (o : Option Session) → need d ≡ k → IsPlaced t d (session_target p k o)
session_placed t d p k None e = tt
session_placed t d p k (Some s) e = who_placed t d p s.role k s.who e

by_password_placed : (t : ℕ) (d : Command) (b : Bool) (u : ℕ) → named (need d) ≡ None → IsPlaced t d (cond b (Alone (Some (TheUser u))) (Nobody bad_login))
by_password_placed t d true u e = e
by_password_placed t d false u e = tt

user_entering : (t : ℕ) (d : Command) (salt : Salt) (password : List ℕ) (o : Option UserItem) → named (need d) ≡ None → IsPlaced t d (by_password salt password o)
user_entering t d salt password None e = tt
user_entering t d salt password (Some x) e = by_password_placed t d (x.enabled && same_digest x.secret (digest salt password)) x.id e

by_receipt_placed : (t : ℕ) (d : Command) (o : Option Case) → IsPlaced t d (by_receipt o)
by_receipt_placed t d None = tt
by_receipt_placed t d (Some c) = refl

anonymous_placed : (t : ℕ) (p : Plain) (d : Command) → IsPlaced t d (anonymous p d)
anonymous_placed t p (commands.Login k name password) = user_entering t (commands.Login k name password) p.registry.settings.salt password (user_named name p.registry.users) refl
anonymous_placed t p (commands.ReceiptLogin k receipt) = by_receipt_placed t (commands.ReceiptLogin k receipt) (with_receipt (digest p.registry.settings.salt receipt) p.cases)
anonymous_placed t p _ = refl

needed_placed : (t : ℕ) (p : Plain) (presented : Presented) (d : Command) (k : Need) → need d ≡ k → IsPlaced t d (needed_target p presented d k)
needed_placed t p presented d Anyone e = anonymous_placed t p d
needed_placed t p presented d Any_session e = session_placed t d p Any_session (session p.registry.settings.salt presented p.sessions) e
needed_placed t p presented d Own e = session_placed t d p Own (session p.registry.settings.salt presented p.sessions) e
needed_placed t p presented d (Staff role) e = session_placed t d p (Staff role) (session p.registry.settings.salt presented p.sessions) e
needed_placed t p presented d (Names role right n) e = session_placed t d p (Names role right n) (session p.registry.settings.salt presented p.sessions) e

same_need : (d : Command) → need (outline d) ≡ need d
same_need (commands.Submit t c answers) = refl
same_need (commands.GiveIdentity t answers) = refl
same_need _ = refl

outlined : (d : Command) (by : Option Principal) → report_of (outline d) by ≡ report_of d by
outlined d None = refl
outlined d (Some (principals.User t u)) = ap named (same_need d)
outlined d (Some (principals.Report t n)) = refl

-- on no report
pub alone_placed : (t : ℕ) (p : Plain) (presented : Presented) (d : Command) (who : Option Who) → target p presented (outline d) ≡ Alone who → report_of d (option_map (principal t) who) ≡ None
alone_placed t p presented d who e = sym (outlined d (option_map (principal t) who)) ∙ subst (IsPlaced t (outline d)) e (needed_placed t p presented (outline d) (need (outline d)) refl)

-- on a report
pub on_placed : (t : ℕ) (p : Plain) (presented : Presented) (d : Command) (who : Who) (c : Case) → target p presented (outline d) ≡ On who c → report_of d (Some (principal t who)) ≡ Some c.number
on_placed t p presented d who c e = sym (outlined d (Some (principal t who))) ∙ subst (IsPlaced t (outline d)) e (needed_placed t p presented (outline d) (need (outline d)) refl)

pub who_principal : (t : ℕ) (who : Who) → who_of (principal t who) ≡ who
who_principal t (TheUser u) = refl
who_principal t (TheReporter n) = refl

pub whose : (t : ℕ) (who : Option Who) → option_map who_of (option_map (principal t) who) ≡ who
whose t None = refl
whose t (Some who) = ap Some (who_principal t who)
