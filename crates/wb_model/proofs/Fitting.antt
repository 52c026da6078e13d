-- What an accepted request changes fits the tables that it was judged over.
use Rattle.std.proofs.Common.{◌≡◌, inl, inr, ℕ, ◌≤◌, Bool, true, false, cond, eqb, List, [], ◌∷◌, Option, Some, None, refl, ap, subst, arith}
use Rattle.std.specs.Prelude.{◌&&◌}
use Rattle.std.proofs.lemmas.Bool.Decides.{nat_tests}
use Rattle.wb_base.specs.declared.callers.Presented.{Presented}
use Rattle.wb_base.specs.declared.callers.Role.{Role}
use Rattle.wb_model.specs.declared.body.Told.{Told}
use Rattle.wb_base.specs.declared.words.Digest.{Digest}
use Rattle.wb_model.specs.declared.command.Command.{Command}
use Rattle.wb_model.specs.declared.command.Command.TheVariants as commands
use Rattle.wb_base.specs.Secrets.{digest, same_digest}
use Rattle.wb_model.specs.declared.registry.UserItem.{UserItem}
use Rattle.wb_model.specs.Refusals.{not_found, wrong_role, wrong_right, bad_login}
use Rattle.wb_model.specs.Tables.{Registry, context, Plain, Case, Session, Who, TheUser, TheReporter, user, user_named, report, has_number, has_receipt, with_receipt, is_there, is_live, lasts, session, same_role}
use Rattle.wb_model.specs.Targets.{Target, Nobody, Alone, On, finds, named_case, user_target, own_case, reporter_target, some_user_target, who_target, session_target, by_password, by_receipt, anonymous, needed_target, target}
use Rattle.wb_model.specs.Commands.{Need, Anyone, Any_session, Own, Staff, Names, need, has_right}
use Rattle.wb_model.specs.Requests.{Request, Outcome}
use Rattle.wb_base.specs.Days.{day_of}
use Rattle.wb_base.specs.Terms.{expiry}
use Rattle.jiff_core.proofs.SignedLemmas.{signed_arith}
use Rattle.std.specs.Prelude.{int_lt, ℤ, ◌<ℤ◌}
use Rattle.std.proofs.lemmas.Int.{ints}
use Rattle.wb_model.specs.declared.registry.ContextItem.{ContextItem}
use Rattle.wb_model.specs.declared.registry.FormItem.{FormItem}
use Rattle.wb_model.specs.Changes.{TurnContext, Change, Begins, Notes, LogsIn, Answer, judged}
use Rattle.wb_model.specs.Effects.{Effect, Writes, Submits, Comes, Sets}
use Rattle.wb_model.specs.OnReports.{change_on}
use Rattle.wb_model.specs.Submissions.{submission_entry}
use Rattle.wb_model.specs.Rules.{change_alone, effect_at, verdict_on}
use Rattle.wb_model.specs.Host.{change_of}
use Rattle.wb_model.proofs.Effects.{IsSubmitted, submitted, set_is}
use Rattle.wb_model.proofs.Found.{Held, find_held}
use Rattle.wb_model.proofs.LiveActs.{LeavesLive, doing_leaves}

-- each context keeps its reports for a day at least
abbrev pub AreKeeping : List ContextItem → Type 0
AreKeeping [] = Unit {0}
AreKeeping (c ∷ cs) = (1 ≤ c.retention) × AreKeeping cs

-- what is opened is live, what is noted is on a report that is there and leaves it live, and a session that begins lasts
abbrev pub Fits : TurnContext → Plain → Change → Type 0
Fits at p (Begins entry) = (n : ℕ) → is_live p.registry.settings at.time (record { number = n; trail = entry ∷ [] }) ≡ true
Fits at p (Notes n entry) = LeavesLive p.registry.settings at.time entry × (is_there n p.cases ≡ true)
Fits at p (LogsIn s) = lasts at.time p.cases s ≡ true
Fits at p _ = Unit {0}

-- ---- a target's report is one of the tables

cond_on : (b d : Bool) (x y : Told) (t : Target) (who : Who) (c : Case) → cond b (cond d t (Nobody x)) (Nobody y) ≡ On who c → t ≡ On who c
cond_on true true x y t who c e = e
cond_on true false x y t who c e = absurd (grind (arith, e))
cond_on false d x y t who c e = absurd (grind (arith, e))

found_case : (b : Bool) (u : ℕ) (d : Case) (who : Who) (c : Case) → cond b (On (TheUser u) d) (Nobody not_found) ≡ On who c → d ≡ c
found_case true u d who c e = cc
found_case false u d who c e = absurd (grind (arith, e))

named_held : (role : Role) (u n : ℕ) (cs : List Case) (who : Who) (c : Case) → named_case role u (report n cs) ≡ On who c → Held c cs
named_held role u n cs who c e = by (report n cs) refl e
  where
    by : (o : Option Case) → report n cs ≡ o → named_case role u o ≡ On who c → Held c cs
    by None is f = absurd (grind (arith, f))
    by (Some d) is f = subst (λ x. Held x cs) (found_case (finds role u d) u d who c f) (find_held (has_number n) cs d is)

own_held : (n : ℕ) (cs : List Case) (who : Who) (c : Case) → own_case n (report n cs) ≡ On who c → Held c cs
own_held n cs who c e = by (report n cs) refl e
  where
    by : (o : Option Case) → report n cs ≡ o → own_case n o ≡ On who c → Held c cs
    by None is f = absurd (grind (arith, f))
    by (Some d) is f = subst (λ x. Held x cs) (let same : d ≡ c = cc in same) (find_held (has_number n) cs d is)

user_held : (p : Plain) (has : Role) (x : UserItem) (k : Need) (who : Who) (c : Case) → user_target p has x k ≡ On who c → Held c p.cases
user_held p has x (Staff role) who c e = absurd (let f : Alone (Some (TheUser x.id)) ≡ On who c = cond_on (same_role has role) true wrong_right wrong_role (Alone (Some (TheUser x.id))) who c e in grind (arith, f))
user_held p has x (Names role right n) who c e = named_held role x.id n p.cases who c (cond_on (same_role has role) (has_right right x.may) wrong_right wrong_role (named_case role x.id (report n p.cases)) who c e)
user_held p has x _ who c e = absurd (grind (arith, e))

some_user_held : (p : Plain) (has : Role) (k : Need) (o : Option UserItem) (who : Who) (c : Case) → some_user_target p has k o ≡ On who c → Held c p.cases
some_user_held p has k None who c e = absurd (grind (arith, e))
some_user_held p has k (Some x) who c e = user_held p has x k who c e

reporter_held : (p : Plain) (n : ℕ) (k : Need) (who : Who) (c : Case) → reporter_target p n k ≡ On who c → Held c p.cases
reporter_held p n Any_session who c e = own_held n p.cases who c e
reporter_held p n Own who c e = own_held n p.cases who c e
reporter_held p n _ who c e = absurd (grind (arith, e))

who_held : (p : Plain) (has : Role) (k : Need) (w who : Who) (c : Case) → who_target p has k w ≡ On who c → Held c p.cases
who_held p has k (TheUser u) who c e = some_user_held p has k (user u p.registry.users) who c e
who_held p has k (TheReporter n) who c e = reporter_held p n k who c e

session_held : (p : Plain) (k : Need) (o : Option Session) (who : Who) (c : Case) → session_target p k o ≡ On who c → Held c p.cases
session_held p k None who c e = absurd (grind (arith, e))
session_held p k (Some s) who c e = who_held p s.role k s.who who c e

by_password_alone : (p : Plain) (b : Bool) (u : ℕ) (who : Who) (c : Case) → cond b (Alone (Some (TheUser u))) (Nobody bad_login) ≡ On who c → Held c p.cases
by_password_alone p true u who c e = absurd (grind (arith, e))
by_password_alone p false u who c e = absurd (grind (arith, e))

by_password_held : (p : Plain) (password : List ℕ) (o : Option UserItem) (who : Who) (c : Case) → by_password p.registry.settings.salt password o ≡ On who c → Held c p.cases
by_password_held p password None who c e = absurd (grind (arith, e))
by_password_held p password (Some x) who c e = by_password_alone p (x.enabled && same_digest x.secret (digest p.registry.settings.salt password)) x.id who c e

by_receipt_held : (kept : Digest) (cs : List Case) (who : Who) (c : Case) → by_receipt (with_receipt kept cs) ≡ On who c → Held c cs
by_receipt_held kept cs who c e = by (with_receipt kept cs) refl e
  where
    by : (o : Option Case) → with_receipt kept cs ≡ o → by_receipt o ≡ On who c → Held c cs
    by None is f = absurd (grind (arith, f))
    by (Some d) is f = subst (λ x. Held x cs) (let same : d ≡ c = cc in same) (find_held (has_receipt kept) cs d is)

anonymous_held : (p : Plain) (d : Command) (who : Who) (c : Case) → anonymous p d ≡ On who c → Held c p.cases
anonymous_held p (commands.Login t name password) who c e = by_password_held p password (user_named name p.registry.users) who c e
anonymous_held p (commands.ReceiptLogin t receipt) who c e = by_receipt_held (digest p.registry.settings.salt receipt) p.cases who c e
anonymous_held p _ who c e = absurd (grind (arith, e))

needed_held : (p : Plain) (presented : Presented) (d : Command) (k : Need) (who : Who) (c : Case) → needed_target p presented d k ≡ On who c → Held c p.cases
needed_held p presented d Anyone who c e = anonymous_held p d who c e
needed_held p presented d Any_session who c e = session_held p Any_session (session p.registry.settings.salt presented p.sessions) who c e
needed_held p presented d Own who c e = session_held p Own (session p.registry.settings.salt presented p.sessions) who c e
needed_held p presented d (Staff role) who c e = session_held p (Staff role) (session p.registry.settings.salt presented p.sessions) who c e
needed_held p presented d (Names role right n) who c e = session_held p (Names role right n) (session p.registry.settings.salt presented p.sessions) who c e

pub target_held : (p : Plain) (presented : Presented) (d : Command) (who : Who) (c : Case) → target p presented d ≡ On who c → Held c p.cases
target_held p presented d who c e = needed_held p presented d (need d) who c e

pub held_there : (cs : List Case) (c : Case) → Held c cs → is_there c.number cs ≡ true
held_there [] c h = absurd h
held_there (d ∷ cs) c (inl e) = let k : c.number ≡ d.number = ap (λ (x : Case). x.number) e in grind (arith, nat_tests, k)
held_there (d ∷ cs) c (inr h) = let k : is_there c.number cs ≡ true = held_there cs c h in grind (arith, k)

-- ---- what is asked of the rules

int_holds : (a b : ℤ) → a <ℤ b → int_lt a b ≡ true
int_holds a b h = grind (arith, ints)

before_expiry : (day : ℤ) (retention : ℕ) → 1 ≤ retention → int_lt day (expiry day retention) ≡ true
before_expiry day retention le = int_holds day (expiry day retention) (omega (arith, signed_arith, le))

-- a context keeps its reports for a day at least, so they are live as they are opened
opened_live : (at : TurnContext) (g : Registry) (o : Outcome) (c : ContextItem) (form : FormItem) → 1 ≤ c.retention → (n : ℕ) → is_live g.settings at.time (record { number = n; trail = submission_entry at g o c form ∷ [] }) ≡ true
unfolding submission_entry
opened_live at g o c form le n = before_expiry (day_of at.time g.settings.offset) c.retention le

keeping : (cs : List ContextItem) (id : ℕ) (c : ContextItem) → AreKeeping cs → context id cs ≡ Some c → 1 ≤ c.retention
keeping [] id c k e = absurd (grind (arith, e))
keeping (x ∷ cs) id c k e = by (eqb x.id id) e (keeping cs id c k.1)
  where
    by : (b : Bool) → cond b (Some x) (context id cs) ≡ Some c → (context id cs ≡ Some c → 1 ≤ c.retention) → 1 ≤ c.retention
    by true f ih = subst (λ (y : ContextItem). 1 ≤ y.retention) (let same : x ≡ c = cc in same) k.0
    by false f ih = ih f

-- what is done on a live report fits
on_fits : (at : TurnContext) (p : Plain) (who : Who) (c : Case) (e : Effect) → is_there c.number p.cases ≡ true → is_live p.registry.settings at.time c ≡ true → Fits at p (change_on at p.registry who c.number c.trail e)
on_fits at p who c (Writes d) there lives = (doing_leaves p.registry.settings at.time c.number who c.trail d lives, there)
on_fits at p who c (Comes role) there lives = grind (arith, nat_tests, there)
on_fits at p who c _ there lives = tt

-- and what is done on none, where reports begin in the tenant's contexts
alone_fits : (at : TurnContext) (p : Plain) (who : Option Who) (o : Outcome) (d : Command) (e : Effect) → AreKeeping p.registry.contexts → IsSubmitted p.registry d e → Fits at p (change_alone at p.registry who o e)
alone_fits at p who o d (Submits c form) keeps k = opened_live at p.registry o c form (keeping p.registry.contexts k.1.0 c keeps k.1.1)
alone_fits at p who o d (Comes role) keeps k = grind (arith, nat_tests)
alone_fits at p who o d (Sets t proposal) keeps k = set_is (Fits at p) _ tt (λ x is. tt)
alone_fits at p who o d _ keeps k = tt

judged_fits : (at : TurnContext) (p : Plain) (o : Option Told) (ch : Change) (a : Answer) → (o ≡ None → Fits at p ch) → Fits at p (change_of (judged o ch a))
judged_fits at p None ch a h = h refl
judged_fits at p (Some x) ch a h = tt

-- where the target's report is there and live, what a request changes fits
pub verdict_fits : (p : Plain) (at : TurnContext) (q : Request) (t : Target) → AreKeeping p.registry.contexts → ((who : Who) (c : Case) → t ≡ On who c → (is_there c.number p.cases ≡ true) × (is_live p.registry.settings at.time c ≡ true)) → Fits at p (change_of (verdict_on p at q t))
verdict_fits p at q (Nobody x) keeps known = tt
verdict_fits p at q (Alone who) keeps known = judged_fits at p _ _ _ (λ free. alone_fits at p who q.outcome q.command (effect_at p at q who []) keeps (submitted at p.registry who q.session [] q.command))
verdict_fits p at q (On who c) keeps known = judged_fits at p _ _ _ (λ free. on_fits at p who c (effect_at p at q (Some who) c.trail) (known who c refl).0 (known who c refl).1)
