-- The target of a command is one that suits it, and a report that it is on is there.
use Rattle.std.proofs.Common.{◌≡◌, inl, inr, ℕ, Bool, true, false, cond, List, [], ◌∷◌, Option, Some, None, refl, sym, ap, ◌∙◌, arith}
use Rattle.std.specs.Prelude.{◌&&◌, ◌||◌}
use Rattle.wb_base.specs.Secrets.{digest, same_digest}
use Rattle.std.proofs.lemmas.Bool.Decides.{nat_tests}
use Rattle.wb_base.specs.declared.callers.Presented.{Presented}
use Rattle.wb_base.specs.declared.callers.Role.{Role}
use Rattle.wb_base.specs.declared.words.Salt.{Salt}
use Rattle.wb_model.specs.declared.body.Told.{Told}
use Rattle.wb_model.specs.declared.command.Command.{Command}
use Rattle.wb_model.specs.declared.command.Command.TheVariants as commands
use Rattle.wb_model.specs.declared.registry.UserItem.{UserItem}
use Rattle.wb_model.specs.Commands.{Right, Free, has_right, Need, Anyone, Any_session, Own, Staff, Names, need}
use Rattle.wb_model.specs.Opened.{Apart}
use Rattle.wb_model.specs.Tables.{Plain, Case, Session, Who, TheUser, TheReporter, has_number, user, report, session, same_role}
use Rattle.wb_model.specs.Targets.{Target, Nobody, Alone, On, finds, named_case, user_target, own_case, reporter_target, some_user_target, who_target, session_target, by_password, by_receipt, anonymous, needed_target, target}
use Rattle.wb_model.specs.Refusals.{not_found, wrong_role, wrong_right, bad_login}
use Rattle.wb_model.specs.Requests.{outline}
use Rattle.wb_model.proofs.Found.{Held}
use Rattle.wb_model.proofs.Fitting.{target_held}
use Rattle.wb_model.proofs.Placed.{on_placed}
use Rattle.wb_desk.specs.Suited.{is_entry, is_return, is_free, is_owned, suits}

or_true : (b : Bool) → (b || true) ≡ true
or_true true = refl
or_true false = refl

cond_suits : (c : Command) (a b : Bool) (t : Target) (x y : Told) → suits t c ≡ true → suits (cond a (cond b t (Nobody x)) (Nobody y)) c ≡ true
cond_suits c true true t x y h = h
cond_suits c true false t x y h = refl
cond_suits c false b t x y h = refl

found_suits : (c : Command) (role : Role) (right : Right) (n u : ℕ) (b : Bool) (case : Case) (x : Told) → need c ≡ Names role right n → suits (cond b (On (TheUser u) case) (Nobody x)) c ≡ true
found_suits c role right n u true case x e = rw e refl
found_suits c role right n u false case x e = refl

named_suits : (c : Command) (role : Role) (right : Right) (n u : ℕ) (o : Option Case) → need c ≡ Names role right n → suits (named_case role u o) c ≡ true
named_suits c role right n u None e = refl
named_suits c role right n u (Some case) e = found_suits c role right n u (finds role u case) case not_found e

user_suits : (p : Plain) (c : Command) (has : Role) (x : UserItem) (k : Need) → need c ≡ k → is_free k ≡ false → suits (user_target p has x k) c ≡ true
user_suits p c has x Anyone e f = absurd cc
user_suits p c has x Any_session e f = rw e (or_true (is_entry c))
user_suits p c has x Own e f = refl
user_suits p c has x (Staff role) e f = cond_suits c (same_role has role) (has_right Free x.may) (Alone (Some (TheUser x.id))) wrong_right wrong_role (rw e (or_true (is_entry c)))
user_suits p c has x (Names role right n) e f = cond_suits c (same_role has role) (has_right right x.may) (named_case role x.id (report n p.cases)) wrong_right wrong_role (named_suits c role right n x.id (report n p.cases) e)

own_suits : (c : Command) (n : ℕ) (o : Option Case) → is_owned (need c) ≡ true → suits (own_case n o) c ≡ true
own_suits c n None e = refl
own_suits c n (Some case) e = rw e (or_true (is_return c))

reporter_suits : (p : Plain) (c : Command) (n : ℕ) (k : Need) → need c ≡ k → is_free k ≡ false → suits (reporter_target p n k) c ≡ true
reporter_suits p c n Anyone e f = absurd cc
reporter_suits p c n Any_session e f = own_suits c n (report n p.cases) (ap is_owned e)
reporter_suits p c n Own e f = own_suits c n (report n p.cases) (ap is_owned e)
reporter_suits p c n (Staff role) e f = refl
reporter_suits p c n (Names role right m) e f = refl

some_suits : (p : Plain) (c : Command) (has : Role) (k : Need) (o : Option UserItem) → need c ≡ k → is_free k ≡ false → suits (some_user_target p has k o) c ≡ true
some_suits p c has k None e f = refl
some_suits p c has k (Some x) e f = user_suits p c has x k e f

who_suits : (p : Plain) (c : Command) (has : Role) (k : Need) (w : Who) → need c ≡ k → is_free k ≡ false → suits (who_target p has k w) c ≡ true
who_suits p c has k (TheUser u) e f = some_suits p c has k (user u p.registry.users) e f
who_suits p c has k (TheReporter n) e f = reporter_suits p c n k e f

session_suits : (p : Plain) (c : Command) (k : Need) (o : Option Session) → need c ≡ k → is_free k ≡ false → suits (session_target p k o) c ≡ true
session_suits p c k None e f = refl
session_suits p c k (Some s) e f = who_suits p c s.role k s.who e f

enters : (salt : Salt) (password : List ℕ) (t : ℕ) (name word : List ℕ) (o : Option UserItem) → suits (by_password salt password o) (commands.Login t name word) ≡ true
enters salt password t name word None = refl
enters salt password t name word (Some x) = by (x.enabled && same_digest x.secret (digest salt password))
  where
    by : (b : Bool) → suits (cond b (Alone (Some (TheUser x.id))) (Nobody bad_login)) (commands.Login t name word) ≡ true
    by true = refl
    by false = refl

returns : (t : ℕ) (receipt : List ℕ) (o : Option Case) → suits (by_receipt o) (commands.ReceiptLogin t receipt) ≡ true
returns t receipt None = refl
returns t receipt (Some c) = refl

free_suits : (p : Plain) (c : Command) → need c ≡ Anyone → suits (anonymous p c) c ≡ true
free_suits p commands.Health e = refl
free_suits p (commands.Public t) e = refl
free_suits p (commands.ContextOf t x) e = refl
free_suits p (commands.Submit t x answers) e = refl
free_suits p (commands.Login t name password) e = enters _ _ t name password _
free_suits p (commands.ReceiptLogin t receipt) e = returns t receipt _
free_suits p _ e = absurd cc

pub suited : (p : Plain) (s : Presented) (c : Command) → suits (target p s c) c ≡ true
suited p s c = by (need c) refl
  where
    by : (k : Need) → need c ≡ k → suits (needed_target p s c k) c ≡ true
    by Anyone e = free_suits p c e
    by Any_session e = session_suits p c Any_session (session p.registry.settings.salt s p.sessions) e refl
    by Own e = session_suits p c Own (session p.registry.settings.salt s p.sessions) e refl
    by (Staff role) e = session_suits p c (Staff role) (session p.registry.settings.salt s p.sessions) e refl
    by (Names role right n) e = session_suits p c (Names role right n) (session p.registry.settings.salt s p.sessions) e refl

-- ---- the report

held_found : (cs : List Case) (c : Case) → Apart has_number cs → Held c cs → report c.number cs ≡ Some c
held_found [] c apart held = absurd held
held_found (x ∷ xs) c apart (inl e) =
    let same : has_number c.number x ≡ true = (let n : c.number ≡ x.number = ap (λ (y : Case). y.number) e in grind (arith, nat_tests, n)) in
    rw same (ap Some (sym e))
held_found (x ∷ xs) c apart (inr h) = by (held_found xs c apart.1 h) (has_number c.number x) refl
  where
    by : report c.number xs ≡ Some c → (b : Bool) → has_number c.number x ≡ b → cond b (Some x) (report c.number xs) ≡ Some c
    by later true e = (let none : report c.number xs ≡ None = apart.0 c.number e in absurd (let bad : Some c ≡ None = sym later ∙ none in cc))
    by later false e = later

pub target_there : (p : Plain) (s : Presented) (d : Command) (who : Who) (c : Case) → Apart has_number p.cases → target p s d ≡ On who c → report c.number p.cases ≡ Some c
target_there p s d who c apart e = held_found p.cases c apart (target_held p s d who c e)

-- a reporter's report has the reporter's number
pub reporter_number : (p : Plain) (s : Presented) (d : Command) (n : ℕ) (c : Case) → target p s (outline d) ≡ On (TheReporter n) c → n ≡ c.number
reporter_number p s d n c e = (let same : Some n ≡ Some c.number = on_placed 0 p s d (TheReporter n) c e in cc)
