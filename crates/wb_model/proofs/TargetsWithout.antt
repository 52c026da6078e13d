-- The target of a request where one report is left out, and what its turn was then.
use Rattle.std.proofs.Common.{◌≡◌, ◌≢◌, ◌⊎◌, inl, inr, ℕ, Bool, true, false, cond, not, eqb, [], List, Option, Some, None, refl, sym, ap, ◌∙◌, subst, arith}
use Rattle.std.specs.Prelude.{find, ◌&&◌}
use Rattle.std.proofs.lemmas.Bool.Decides.{nat_tests}
use Rattle.wb_base.specs.declared.callers.Presented.{Presented}
use Rattle.wb_base.specs.declared.callers.Presented.TheVariants as presented
use Rattle.wb_base.specs.declared.callers.Role.{Role}
use Rattle.wb_model.specs.declared.body.Told.{Told}
use Rattle.wb_model.specs.declared.command.Asked.{Asked}
use Rattle.wb_model.specs.declared.command.Command.{Command}
use Rattle.wb_model.specs.declared.command.Command.TheVariants as commands
use Rattle.wb_base.specs.declared.words.Digest.{Digest}
use Rattle.wb_base.specs.declared.words.Salt.{Salt}
use Rattle.wb_model.specs.declared.event.What.{What}
use Rattle.wb_model.specs.declared.event.What.TheVariants.{Idle}
use Rattle.wb_model.specs.declared.registry.UserItem.{UserItem}
use Rattle.wb_model.specs.Refusals.{bad_login, not_found, no_session, wrong_role, wrong_right}
use Rattle.wb_base.specs.Secrets.{digest, same_digest}
use Rattle.wb_model.specs.Tables.{Registry, has_number, Plain, Case, Session, Who, TheUser, TheReporter, Registry, user, user_named, report, has_receipt, with_receipt, session, others, is_reporter_of, sessions_but, same_role}
use Rattle.wb_model.specs.Targets.{Target, Nobody, Alone, On, finds, named_case, staff, user_target, own_case, reporter_target, some_user_target, who_target, session_target, by_password, by_receipt, anonymous, needed_target, target, trail_at}
use Rattle.wb_model.specs.Commands.{Right, Free, Need, Anyone, Any_session, Own, Staff, Names, need, has_right, is_read, is_submission}
use Rattle.wb_model.specs.Requests.{Outcome, Request, request, outline}
use Rattle.wb_model.specs.Changes.{TurnContext, Change, Answer, Verdict, Refused, Accepted, judged}
use Rattle.wb_model.specs.Effects.{Effect, Submits}
use Rattle.wb_model.proofs.Effects.{IsSubmitted, submitted}
use Rattle.wb_model.specs.Submissions.{Drawing, drawing, submission_refusal}
use Rattle.wb_model.specs.Rules.{refusal_alone, answer_alone, change_alone, effect_at, verdict_on}
use Rattle.wb_model.specs.PastTurns.{did, what_by}
use Rattle.wb_model.specs.Opened.{Apart, has_turn}
use Rattle.wb_model.specs.Absence.{shrunk}
use Rattle.wb_model.proofs.Found.{decide, same_number, other_number}
use Rattle.wb_model.proofs.Leaving.{truth, none_filter, some_filter, apart_gone, report_others, report_gone, report_number}

-- ---- targets

-- the target before and after r is left out: the same and not on r, refused both times, or on r before and refused after
pub data TargetWithout (r : ℕ) (before after : Target) : Type 0 where
  same : after ≡ before → ((who : Who) (c : Case) → before ≡ On who c → c.number ≢ r) → TargetWithout r before after
  refused : (x y : Told) → before ≡ Nobody x → after ≡ Nobody y → TargetWithout r before after
  gone : (who : Who) (c : Case) (y : Told) → before ≡ On who c → c.number ≡ r → after ≡ Nobody y → TargetWithout r before after

no_target : (x : Told) (who : Who) (c : Case) → Nobody x ≡ On who c → ⊥
no_target x who c e = grind (arith, e)

no_alone : (o : Option Who) (who : Who) (c : Case) → Alone o ≡ On who c → ⊥
no_alone o who c e = grind (arith, e)

on_case : (v who : Who) (d c : Case) → On v d ≡ On who c → d ≡ c
on_case v who d c e = cc

same_nobody : (r : ℕ) (x : Told) → TargetWithout r (Nobody x) (Nobody x)
same_nobody r x = refused x x refl refl

same_alone : (r : ℕ) (o : Option Who) → TargetWithout r (Alone o) (Alone o)
same_alone r o = same refl (λ who c e. absurd (no_alone o who c e))

off_case : (r : ℕ) (v : Who) (d : Case) → d.number ≢ r → (who : Who) (c : Case) → On v d ≡ On who c → c.number ≢ r
off_case r v d ne who c e = subst (λ (x : Case). x.number ≢ r) (on_case v who d c e) ne

moved_to : (r : ℕ) (b a c : Target) → a ≡ c → TargetWithout r b c → TargetWithout r b a
moved_to r b a c e w = subst (TargetWithout r b) (sym e) w

own_without : (r n : ℕ) (cs : List Case) → n ≢ r → TargetWithout r (own_case n (report n cs)) (own_case n (report n (others r cs)))
own_without r n cs ne = by (report n cs) refl
  where
    by : (o : Option Case) → report n cs ≡ o → TargetWithout r (own_case n o) (own_case n (report n (others r cs)))
    by None e = same (ap (own_case n) (report_others n r cs ne ∙ e)) (λ who c f. absurd (no_target no_session who c f))
    by (Some d) e = same (ap (own_case n) (report_others n r cs ne ∙ e)) (off_case r (TheReporter n) d (λ at. ne (sym (report_number n cs d e) ∙ at)))

reporter_without : (r n : ℕ) (p : Plain) (k : Need) → n ≢ r → TargetWithout r (reporter_target p n k) (reporter_target (shrunk r p) n k)
reporter_without r n p Any_session ne = own_without r n p.cases ne
reporter_without r n p Own ne = own_without r n p.cases ne
reporter_without r n p _ ne = same_nobody r wrong_role

-- a request with a session of r's reporter, which is not there without r
own_gone : (r : ℕ) (o : Option Case) → ((c : Case) → o ≡ Some c → c.number ≡ r) → TargetWithout r (own_case r o) (Nobody no_session)
own_gone r None e = same_nobody r no_session
own_gone r (Some c) e = gone (TheReporter r) c no_session refl (e c refl) refl

reporter_gone : (r : ℕ) (p : Plain) (k : Need) → TargetWithout r (reporter_target p r k) (Nobody no_session)
reporter_gone r p Any_session = own_gone r (report r p.cases) (report_number r p.cases)
reporter_gone r p Own = own_gone r (report r p.cases) (report_number r p.cases)
reporter_gone r p _ = refused wrong_role no_session refl refl

reading : (r u : ℕ) (role : Role) (c : Case) → c.number ≡ r → TargetWithout r (cond (finds role u c) (On (TheUser u) c) (Nobody not_found)) (Nobody not_found)
reading r u role c e = by (finds role u c)
  where
    by : (b : Bool) → TargetWithout r (cond b (On (TheUser u) c) (Nobody not_found)) (Nobody not_found)
    by true = gone (TheUser u) c not_found refl e refl
    by false = same_nobody r not_found

not_reading : (r u : ℕ) (role : Role) (c : Case) → c.number ≢ r → TargetWithout r (cond (finds role u c) (On (TheUser u) c) (Nobody not_found)) (cond (finds role u c) (On (TheUser u) c) (Nobody not_found))
not_reading r u role c ne = by (finds role u c)
  where
    by : (b : Bool) → TargetWithout r (cond b (On (TheUser u) c) (Nobody not_found)) (cond b (On (TheUser u) c) (Nobody not_found))
    by true = same refl (off_case r (TheUser u) c ne)
    by false = same_nobody r not_found

named_without : (r u n : ℕ) (role : Role) (cs : List Case) → TargetWithout r (named_case role u (report n cs)) (named_case role u (report n (others r cs)))
named_without r u n role cs = by (decide n r) (report n cs) refl
  where
    by : (n ≡ r) ⊎ (n ≢ r) → (o : Option Case) → report n cs ≡ o → TargetWithout r (named_case role u o) (named_case role u (report n (others r cs)))
    by (inl here) None e = moved_to r _ _ (Nobody not_found) (ap (λ j. named_case role u (report j (others r cs))) here ∙ ap (named_case role u) (report_gone r cs)) (same_nobody r not_found)
    by (inl here) (Some c) e = moved_to r _ _ (Nobody not_found) (ap (λ j. named_case role u (report j (others r cs))) here ∙ ap (named_case role u) (report_gone r cs)) (reading r u role c (report_number n cs c e ∙ here))
    by (inr ne) None e = moved_to r _ _ (Nobody not_found) (ap (named_case role u) (report_others n r cs ne ∙ e)) (same_nobody r not_found)
    by (inr ne) (Some c) e = moved_to r _ _ (named_case role u (Some c)) (ap (named_case role u) (report_others n r cs ne ∙ e)) (not_reading r u role c (λ at. ne (sym (report_number n cs c e) ∙ at)))

staff_without : (r : ℕ) (has role : Role) (right : Right) (x : UserItem) (b a : Target) → TargetWithout r b a → TargetWithout r (staff has role right x b) (staff has role right x a)
staff_without r has role right x b a w = by (same_role has role) (has_right right x.may)
  where
    by : (d e : Bool) → TargetWithout r (cond d (cond e b (Nobody wrong_right)) (Nobody wrong_role)) (cond d (cond e a (Nobody wrong_right)) (Nobody wrong_role))
    by true true = w
    by true false = same_nobody r wrong_right
    by false e = same_nobody r wrong_role

user_without : (r : ℕ) (p : Plain) (has : Role) (x : UserItem) (k : Need) → TargetWithout r (user_target p has x k) (user_target (shrunk r p) has x k)
user_without r p has x Anyone = same_alone r _
user_without r p has x Any_session = same_alone r _
user_without r p has x Own = same_nobody r wrong_role
user_without r p has x (Staff role) = staff_without r has role Free x _ _ (same_alone r (Some (TheUser x.id)))
user_without r p has x (Names role right n) = staff_without r has role right x _ _ (named_without r x.id n role p.cases)

some_user_without : (r : ℕ) (p : Plain) (has : Role) (k : Need) (o : Option UserItem) → TargetWithout r (some_user_target p has k o) (some_user_target (shrunk r p) has k o)
some_user_without r p has k None = same_nobody r no_session
some_user_without r p has k (Some x) = user_without r p has x k

who_without : (r : ℕ) (p : Plain) (has : Role) (k : Need) (w : Who) → is_reporter_of r w ≡ false → TargetWithout r (who_target p has k w) (who_target (shrunk r p) has k w)
who_without r p has k (TheUser u) off = some_user_without r p has k (user u p.registry.users)
who_without r p has k (TheReporter n) off = reporter_without r n p k (grind (arith, nat_tests, off))

who_gone : (r : ℕ) (p : Plain) (has : Role) (k : Need) (w : Who) → is_reporter_of r w ≡ true → TargetWithout r (who_target p has k w) (Nobody no_session)
who_gone r p has k (TheUser u) on = absurd (grind (arith, on))
who_gone r p has k (TheReporter n) on = let here : r ≡ n = grind (arith, nat_tests, on) in subst (λ j. TargetWithout r (reporter_target p j k) (Nobody no_session)) here (reporter_gone r p k)

session_without : (r : ℕ) (p : Plain) (k : Need) (token : Presented) → Apart has_turn p.sessions → TargetWithout r (session_target p k (session p.registry.settings.salt token p.sessions)) (session_target (shrunk r p) k (session p.registry.settings.salt token (sessions_but r p.sessions)))
session_without r p k presented.None a = same_nobody r no_session
session_without r p k presented.Bad a = same_nobody r no_session
session_without r p k (presented.Token turn secret) a = by (find m p.sessions) refl
  where
    m : Session → Bool
    m = λ s. eqb s.turn turn && same_digest s.digest (digest p.registry.settings.salt secret)

    held : (s : Session) → m s ≡ true → has_turn turn s ≡ true
    held s e = grind (arith, e)

    num : (s : Session) → find m p.sessions ≡ Some s → (is_reporter_of r s.who ≡ true) ⊎ (is_reporter_of r s.who ≡ false) → TargetWithout r (session_target p k (Some s)) (session_target (shrunk r p) k (find m (sessions_but r p.sessions)))
    num s e (inl on) = moved_to r _ _ (Nobody no_session) (ap (session_target (shrunk r p) k) (apart_gone has_turn m (λ (s : Session). not (is_reporter_of r s.who)) turn held p.sessions s a e (ap not on))) (who_gone r p s.role k s.who on)
    num s e (inr off) = moved_to r _ _ (session_target (shrunk r p) k (Some s)) (ap (session_target (shrunk r p) k) (some_filter m (λ (s : Session). not (is_reporter_of r s.who)) p.sessions s e (ap not off))) (who_without r p s.role k s.who off)

    by : (o : Option Session) → find m p.sessions ≡ o → TargetWithout r (session_target p k o) (session_target (shrunk r p) k (find m (sessions_but r p.sessions)))
    by None e = moved_to r _ _ (Nobody no_session) (ap (session_target (shrunk r p) k) (none_filter m _ p.sessions e)) (same_nobody r no_session)
    by (Some s) e = num s e (truth (is_reporter_of r s.who))

receipt_without : (r : ℕ) (d : Digest) (cs : List Case) → Apart has_receipt cs → TargetWithout r (by_receipt (with_receipt d cs)) (by_receipt (with_receipt d (others r cs)))
receipt_without r d cs a = by (with_receipt d cs) refl
  where
    num : (x : Case) → (x.number ≡ r) ⊎ (x.number ≢ r) → with_receipt d cs ≡ Some x → TargetWithout r (by_receipt (Some x)) (by_receipt (with_receipt d (others r cs)))
    num x (inl here) e = gone (TheReporter x.number) x bad_login refl here (ap by_receipt (apart_gone has_receipt (has_receipt d) (λ (c : Case). not (has_number r c)) d (λ y k. k) cs x a e (ap not (same_number x.number r here))))
    num x (inr ne) e = same (ap by_receipt (some_filter (has_receipt d) (λ (c : Case). not (has_number r c)) cs x e (ap not (other_number x.number r ne)))) (off_case r (TheReporter x.number) x ne)

    by : (o : Option Case) → with_receipt d cs ≡ o → TargetWithout r (by_receipt o) (by_receipt (with_receipt d (others r cs)))
    by None e = same (ap by_receipt (none_filter (has_receipt d) _ cs e)) (λ who c f. absurd (no_target bad_login who c f))
    by (Some x) e = num x (decide x.number r) e

by_password_without : (r : ℕ) (b : Bool) (u : ℕ) → TargetWithout r (cond b (Alone (Some (TheUser u))) (Nobody bad_login)) (cond b (Alone (Some (TheUser u))) (Nobody bad_login))
by_password_without r true u = same_alone r (Some (TheUser u))
by_password_without r false u = same_nobody r bad_login

-- a login by a password does not look at reports
user_entering : (r : ℕ) (salt : Salt) (password : List ℕ) (o : Option UserItem) → TargetWithout r (by_password salt password o) (by_password salt password o)
user_entering r salt password None = same_nobody r bad_login
user_entering r salt password (Some x) = by_password_without r (x.enabled && same_digest x.secret (digest salt password)) x.id

anonymous_without : (r : ℕ) (p : Plain) (d : Command) → Apart has_receipt p.cases → TargetWithout r (anonymous p d) (anonymous (shrunk r p) d)
anonymous_without r p (commands.Login t name password) a = user_entering r p.registry.settings.salt password (user_named name p.registry.users)
anonymous_without r p (commands.ReceiptLogin t receipt) a = receipt_without r (digest p.registry.settings.salt receipt) p.cases a
anonymous_without r p _ a = same_alone r None

needed_without : (r : ℕ) (p : Plain) (token : Presented) (d : Command) (k : Need) → Apart has_receipt p.cases → Apart has_turn p.sessions → TargetWithout r (needed_target p token d k) (needed_target (shrunk r p) token d k)
needed_without r p token d Anyone b a = anonymous_without r p d b
needed_without r p token d Any_session b a = session_without r p Any_session token a
needed_without r p token d Own b a = session_without r p Own token a
needed_without r p token d (Staff role) b a = session_without r p (Staff role) token a
needed_without r p token d (Names role right n) b a = session_without r p (Names role right n) token a

pub target_without : (r : ℕ) (p : Plain) (token : Presented) (d : Command) → Apart has_receipt p.cases → Apart has_turn p.sessions → TargetWithout r (target p token d) (target (shrunk r p) token d)
target_without r p token d b a = needed_without r p token d (need d) b a

-- ---- what the turn was

-- the event of a request with this target
abbrev pub what_for : Plain → TurnContext → ℕ → Asked → Target → What
what_for p at u a t = what_by (verdict_on p at (request p.registry (trail_at t) a) t) u t a

judged_what : (o : Option Told) (x y : Change) (a b : Answer) (u : ℕ) (t : Target) (asked : Asked) → what_by (judged o x a) u t asked ≡ what_by (judged o y b) u t asked
judged_what None x y a b u t asked = refl
judged_what (Some told) x y a b u t asked = refl

-- a refusal looks at receipts for a submission alone
refusal_same : (g : Registry) (n m : Drawing) (o : Outcome) (d : Command) (e : Effect) → IsSubmitted g d e → (is_submission d ≡ true → n ≡ m) → refusal_alone g n o e ≡ refusal_alone g m o e
refusal_same g n m o d (Submits c form) k free = ap (λ x. submission_refusal g.settings.quota x o) (free k.0)
refusal_same g n m o d _ k free = refl

outlined_submission : (d : Command) → is_submission (outline d) ≡ is_submission d
outlined_submission (commands.Submit t c answers) = refl
outlined_submission (commands.GiveIdentity t answers) = refl
outlined_submission _ = refl

-- where the target is the same the event is
same_what : (r : ℕ) (p : Plain) (at : TurnContext) (u : ℕ) (a : Asked) (t : Target) → (is_submission a.command ≡ true → drawing at (shrunk r p) ≡ drawing at p) → what_for (shrunk r p) at u a t ≡ what_for p at u a t
same_what r p at u a (Nobody x) free = refl
same_what r p at u a (On who c) free = refl
same_what r p at u a (Alone who) free =
    let q : Request = request p.registry [] a in
    let e : Effect = effect_at p at q who [] in
    let ch : Change = change_alone at p.registry who q.outcome e in
    ap (λ o. what_by (judged o ch (answer_alone at (shrunk r p) who e)) u (Alone who) a) (refusal_same p.registry (drawing at (shrunk r p)) (drawing at p) q.outcome q.command e (submitted at p.registry who q.session [] q.command) (λ is. free (sym (outlined_submission a.command) ∙ is)))
    ∙ judged_what (refusal_alone p.registry (drawing at p) q.outcome e) ch ch (answer_alone at (shrunk r p) who e) (answer_alone at p who e) u (Alone who) a

-- the event of a request with target b, where r is left out: the same and not on r, or nothing in the place of nothing or of what was on r
pub data WhatWithout (r u : ℕ) (a : Asked) (b : Target) (before after : What) : Type 0 where
  kept : before ≡ cond (is_read a.command) Idle (did u b a) → after ≡ before → ((who : Who) (c : Case) → b ≡ On who c → c.number ≢ r) → WhatWithout r u a b before after
  idle : before ≡ Idle → after ≡ Idle → WhatWithout r u a b before after
  dropped : (who : Who) (c : Case) → b ≡ On who c → c.number ≡ r → before ≡ cond (is_read a.command) Idle (did u b a) → after ≡ Idle → WhatWithout r u a b before after

by_verdict : (r u : ℕ) (a : Asked) (b : Target) (v : Verdict) (after : What) → after ≡ what_by v u b a → ((who : Who) (c : Case) → b ≡ On who c → c.number ≢ r) → WhatWithout r u a b (what_by v u b a) after
by_verdict r u a b (Refused x) after e off = idle refl e
by_verdict r u a b (Accepted ch ans) after e off = kept refl e off

by_gone : (r u : ℕ) (a : Asked) (b : Target) (who : Who) (c : Case) (v : Verdict) (after : What) → b ≡ On who c → after ≡ Idle → c.number ≡ r → WhatWithout r u a b (what_by v u b a) after
by_gone r u a b who c (Refused x) after on e here = idle refl e
by_gone r u a b who c (Accepted ch ans) after on e here = dropped who c on here refl e

what_without_by : (r : ℕ) (p : Plain) (at : TurnContext) (u : ℕ) (a : Asked) (b d : Target) → (is_submission a.command ≡ true → drawing at (shrunk r p) ≡ drawing at p) → TargetWithout r b d → WhatWithout r u a b (what_for p at u a b) (what_for (shrunk r p) at u a d)
what_without_by r p at u a b d free (same e off) = by_verdict r u a b (verdict_on p at (request p.registry (trail_at b) a) b) (what_for (shrunk r p) at u a d) (ap (what_for (shrunk r p) at u a) e ∙ same_what r p at u a b free) off
what_without_by r p at u a b d free (refused x y e f) = idle (ap (what_for p at u a) e) (ap (what_for (shrunk r p) at u a) f)
what_without_by r p at u a b d free (gone who c y e here f) = by_gone r u a b who c (verdict_on p at (request p.registry (trail_at b) a) b) (what_for (shrunk r p) at u a d) e (ap (what_for (shrunk r p) at u a) f) here

-- the event of a request without r
pub what_without : (r : ℕ) (p : Plain) (at : TurnContext) (u : ℕ) (a : Asked) → (is_submission a.command ≡ true → drawing at (shrunk r p) ≡ drawing at p) → Apart has_receipt p.cases → Apart has_turn p.sessions →
    WhatWithout r u a (target p a.session (outline a.command)) (what_for p at u a (target p a.session (outline a.command))) (what_for (shrunk r p) at u a (target (shrunk r p) a.session (outline a.command)))
what_without r p at u a free b apart = what_without_by r p at u a _ _ free (target_without r p a.session (outline a.command) b apart)
