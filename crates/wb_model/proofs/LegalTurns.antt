-- A turn keeps the trails of all reports legal.
use Rattle.std.proofs.Common.{◌≡◌, ◌≢◌, ◌⊎◌, inl, inr, ℕ, ◌+◌, ◌≤◌, Bool, true, false, cond, eqb, List, [], ◌∷◌, ◌++◌, Option, Some, None, refl, sym, ap, ◌∙◌, subst, arith}
use Rattle.std.specs.Prelude.{◌<◌, filter, map, ◌&&◌}
use Rattle.std.proofs.lemmas.Bool.Decides.{nat_tests}
use Rattle.wb_base.specs.declared.callers.Presented.{Presented}
use Rattle.wb_model.specs.declared.access.AccessRequest.{AccessRequest}
use Rattle.wb_model.specs.declared.body.Told.{Told}
use Rattle.wb_model.specs.declared.command.Command.{Command}
use Rattle.wb_model.specs.declared.command.Command.TheVariants as commands
use Rattle.wb_model.specs.declared.command.Decision.{Decision}
use Rattle.wb_model.specs.declared.command.Decision.TheVariants as decisions
use Rattle.wb_model.specs.declared.entry.Entry.{Entry}
use Rattle.wb_model.specs.declared.registry.ContextItem.{ContextItem}
use Rattle.wb_model.specs.declared.registry.FormItem.{FormItem}
use Rattle.wb_model.specs.Trails as trails
use Rattle.wb_model.specs.Commands.{Need, Anyone, Any_session, Own, Staff, Names, need, effect_of}
use Rattle.wb_model.specs.Tables.{Registry, Plain, Case, Who, TheUser, TheReporter, context, disablings}
use Rattle.wb_model.specs.Targets.{Target, Nobody, Alone, On, target}
use Rattle.wb_model.specs.Requests.{Outcome, Request}
use Rattle.wb_model.specs.Changes.{TurnContext, Change, Begins, Deletes, Notes, Answer, judged}
use Rattle.wb_model.specs.Effects.{Effect, Writes, Submits, Sets}
use Rattle.wb_model.specs.OnReports.{refusal_on, change_on}
use Rattle.wb_model.specs.Rules.{change_alone, effect_at, verdict_on}
use Rattle.wb_model.specs.Submissions.{submission_entry, outcome_refusal}
use Rattle.wb_model.specs.Doings.{Moves, doing_entry, actor_of, retention_of, decision_move}
use Rattle.std.specs.Option.{option_or}
use Rattle.wb_model.specs.Host.{noted, cases_after, change_of}
use Rattle.wb_model.specs.Opened.{Ascend}
use Rattle.wb_model.specs.Legal.{Reckoning, reckoning, is_reporter, are_readers, is_next, is_legal, last_at, AsksRightly, AreSound, IsSound, LegalCase, AreLegal}
use Rattle.wb_model.proofs.Found.{Held, decide}
use Rattle.wb_model.proofs.Effects.{IsSubmitted, submitted, share_is, transfer_is, decide_is, comes_is, goes_is, in_open_is, identity_is, set_is}
use Rattle.wb_model.proofs.LegalDoings.{doing_legal, submission_legal, trail_more}
use Rattle.wb_model.proofs.Callers.{IsUser, IsOwner, IsCaller, Called, target_called}

-- ---- what is asked

found_sound : (c : ℕ) (cs : List ContextItem) (x : ContextItem) → AreSound cs → context c cs ≡ Some x → (1 ≤ x.retention) × (x.retention ≤ 3_650) × (are_readers x.recipients ≡ true)
found_sound c [] x sound e = absurd (grind (arith, e))
found_sound c (y ∷ ys) x sound e = by (eqb y.id c) e (found_sound c ys x sound.1)
  where
    by : (b : Bool) → cond b (Some y) (context c ys) ≡ Some x → (context c ys ≡ Some x → (1 ≤ x.retention) × (x.retention ≤ 3_650) × (are_readers x.recipients ≡ true)) → (1 ≤ x.retention) × (x.retention ≤ 3_650) × (are_readers x.recipients ≡ true)
    by true f ih = subst (λ (z : ContextItem). (1 ≤ z.retention) × (z.retention ≤ 3_650) × (are_readers z.recipients ≡ true)) (let same : y ≡ x = cc in same) sound.0
    by false f ih = ih f

user_only : (who : Who) → IsUser who → is_reporter (actor_of who) ≡ false
user_only (TheUser u) h = refl
user_only (TheReporter m) h = absurd h

reporter_only : (who : Who) → IsOwner who → is_reporter (actor_of who) ≡ true
reporter_only (TheUser u) h = absurd h
reporter_only (TheReporter n) h = refl

-- what is written on a report asks rightly
abbrev Asked : TurnContext → Registry → Who → Effect → Type 0
Asked at g who (Writes d) = AsksRightly (reckoning g.settings) at.time (actor_of who) d
Asked at g who _ = Unit {0}

-- nothing is asked but that a user asks
abbrev ByUser : TurnContext → Registry → Who → Need → Effect → Type 0
ByUser at g who (Names role right n) (Writes d) = is_reporter (actor_of who) ≡ false → AsksRightly (reckoning g.settings) at.time (actor_of who) d
ByUser at g who k (Writes d) = ⊥
ByUser at g who k e = is_reporter (actor_of who) ≡ false → is_reporter (actor_of who) ≡ false

asked_by : (at : TurnContext) (g : Registry) (who : Who) (k : Need) (e : Effect) → IsCaller k who → ByUser at g who k e → Asked at g who e
asked_by at g who (Names role right n) (Writes d) h by = by (user_only who h)
asked_by at g who Anyone (Writes d) h by = absurd by
asked_by at g who Any_session (Writes d) h by = absurd by
asked_by at g who Own (Writes d) h by = absurd by
asked_by at g who (Staff role) (Writes d) h by = absurd by
asked_by at g who k _ h by = tt

effect_asked : (at : TurnContext) (g : Registry) (who : Who) (s : Presented) (es : List Entry) (d : Command) → IsSound g → IsCaller (need d) who → Asked at g who (effect_of at g (Some who) s es d)
effect_asked at g who s es (commands.OwnComment t text) sound h = tt
effect_asked at g who s es (commands.GiveIdentity t answers) sound h = identity_is (Asked at g who) es g tt (reporter_only who h)
effect_asked at g who s es (commands.Comment t n text internal) sound h = tt
effect_asked at g who s es (commands.Acknowledge t n) sound h = (user_only who h, refl)
effect_asked at g who s es (commands.Share t n reader) sound h = share_is (Asked at g who) reader g tt (user_only who h)
effect_asked at g who s es (commands.Transfer t n c) sound h = transfer_is (Asked at g who) c g tt (λ x is. (user_only who h, (found_sound c g.contexts x sound.contexts is).2))
effect_asked at g who s es (commands.Postpone t n) sound h = (user_only who h, refl, by (context (trails.context es) g.contexts) refl)
  where
    by : (x : Option ContextItem) → context (trails.context es) g.contexts ≡ x → retention_of x ≤ 3_650
    by None e = omega arith
    by (Some x) e = (found_sound (trails.context es) g.contexts x sound.contexts e).1
effect_asked at g who s es (commands.Decide t n k decision reason withhold) sound h = decide_is (Asked at g who) k g es decision reason withhold tt (λ r y. by r y (user_only who h))
  where
    by : (r : AccessRequest) (y : Decision) → is_reporter (actor_of who) ≡ false → Asked at g who (Writes (Moves (decision_move k (disablings r.by g.users) g.settings.notice_days reason withhold y)))
    by r decisions.Grant f = (f, sound.notice)
    by r decisions.Deny f = f
    by r decisions.Revoke f = f
effect_asked at g who s es (commands.ContextOf t c) sound h = in_open_is (Asked at g who) _ c g tt (λ x y is form. tt)
effect_asked at g who s es (commands.Submit t c answers) sound h = in_open_is (Asked at g who) Submits c g tt (λ x y is form. tt)
effect_asked at g who s es (commands.Login t name password) sound h = comes_is (Asked at g who) (Some who) g.users tt (λ role. tt)
effect_asked at g who s es (commands.ReceiptLogin t receipt) sound h = comes_is (Asked at g who) (Some who) g.users tt (λ role. tt)
effect_asked at g who s es (commands.Logout t) sound h = goes_is (Asked at g who) s tt (λ turn. tt)
effect_asked at g who s es d sound h = asked_by at g who (need d) (effect_of at g (Some who) s es d) h (λ user. user)

-- ---- what is written

unfaulted : (a rest : Option Told) → option_or a rest ≡ None → rest ≡ None
unfaulted None rest e = e
unfaulted (Some x) rest e = absurd (grind (arith, e))

-- ---- a submission

opened_time : (at : TurnContext) (g : Registry) (o : Outcome) (c : ContextItem) (form : FormItem) → (submission_entry at g o c form).at ≡ at.time
unfolding submission_entry
opened_time at g o c form = refl

-- ---- the reports after a change

-- a change writes legal entries
abbrev Right_change : Reckoning → ℕ → List Case → Change → Type 0
Right_change days time cs (Begins entry) = (is_legal days (entry ∷ []) ≡ true) × (entry.at ≤ time)
Right_change days time cs (Notes n entry) = (entry.at ≤ time) × ((c : Case) → Held c cs → c.number ≡ n → is_next days (last_at 0 c.trail) c.trail entry ≡ true)
Right_change days time cs _ = Unit {0}

last_more : (time : ℕ) (es : List Entry) (e : Entry) → last_at time (es ++ e ∷ []) ≡ e.at
last_more time [] e = refl
last_more time (x ∷ es) e = last_more x.at es e

noted_legal : (days : Reckoning) (time n : ℕ) (entry : Entry) (c : Case) → entry.at ≤ time → (c.number ≡ n → is_next days (last_at 0 c.trail) c.trail entry ≡ true) → LegalCase days time c → LegalCase days time (noted n entry c)
noted_legal days time n entry c le next legal = by (eqb c.number n) (decide c.number n) refl
  where
    by : (b : Bool) → (c.number ≡ n) ⊎ (c.number ≢ n) → eqb c.number n ≡ b → LegalCase days time (record { number = c.number; trail = cond b (c.trail ++ entry ∷ []) c.trail })
    by false d is = legal
    by true (inl here) is = (trail_more days c.trail entry legal.0 (next here), (let at : last_at 0 (c.trail ++ entry ∷ []) ≡ entry.at = last_more 0 c.trail entry in omega (arith, at, le)))
    by true (inr away) is = absurd (away (grind (arith, nat_tests, is)))

all_noted : (days : Reckoning) (time n : ℕ) (entry : Entry) (cs : List Case) → entry.at ≤ time → ((c : Case) → Held c cs → c.number ≡ n → is_next days (last_at 0 c.trail) c.trail entry ≡ true) → AreLegal days time cs → AreLegal days time (map (noted n entry) cs)
all_noted days time n entry [] le next legal = tt
all_noted days time n entry (c ∷ cs) le next legal = (noted_legal days time n entry c le (next c (inl refl)) legal.0, all_noted days time n entry cs le (λ x h. next x (inr h)) legal.1)

all_pushed : (days : Reckoning) (time : ℕ) (cs : List Case) (c : Case) → AreLegal days time cs → LegalCase days time c → AreLegal days time (cs ++ c ∷ [])
all_pushed days time [] c legal new = (new, tt)
all_pushed days time (x ∷ cs) c legal new = (legal.0, all_pushed days time cs c legal.1 new)

pub filtered_legal : (p : Case → Bool) (days : Reckoning) (time : ℕ) (cs : List Case) → AreLegal days time cs → AreLegal days time (filter p cs)
filtered_legal p days time [] legal = tt
filtered_legal p days time (c ∷ cs) legal = by (p c) (filtered_legal p days time cs legal.1)
  where
    by : (b : Bool) → AreLegal days time (filter p cs) → AreLegal days time (cond b (c ∷ filter p cs) (filter p cs))
    by true ih = (legal.0, ih)
    by false ih = ih

change_legal : (days : Reckoning) (time last : ℕ) (cs : List Case) (ch : Change) → Right_change days time cs ch → AreLegal days time cs → AreLegal days time (cases_after ch last cs)
change_legal days time last cs (Begins entry) right legal = all_pushed days time cs (record { number = last + 1; trail = entry ∷ [] }) legal right
change_legal days time last cs (Notes n entry) right legal = all_noted days time n entry cs right.0 right.1 legal
change_legal days time last cs (Deletes n) right legal = filtered_legal _ days time cs legal
change_legal days time last cs _ right legal = legal

-- ---- the verdict

above : (k : ℕ) (cs : List Case) (c : Case) → Ascend k cs → Held c cs → k < c.number
above k [] c up h = absurd h
above k (x ∷ cs) c up (inl e) = subst (λ (z : Case). k < z.number) (sym e) up.0
above k (x ∷ cs) c up (inr h) = let more : x.number < c.number = above x.number cs c up.1 h in omega (arith, up.0, more)

-- one report of a number
pub one_case : (k : ℕ) (cs : List Case) (c d : Case) → Ascend k cs → Held c cs → Held d cs → c.number ≡ d.number → c ≡ d
one_case k [] c d up h j same = absurd h
one_case k (x ∷ cs) c d up (inl e) (inl f) same = e ∙ sym f
one_case k (x ∷ cs) c d up (inl e) (inr h) same = absurd (let more : x.number < d.number = above x.number cs d up.1 h in let is : c.number ≡ x.number = ap (λ (z : Case). z.number) e in omega (arith, more, is, same))
one_case k (x ∷ cs) c d up (inr h) (inl f) same = absurd (let more : x.number < c.number = above x.number cs c up.1 h in let is : d.number ≡ x.number = ap (λ (z : Case). z.number) f in omega (arith, more, is, same))
one_case k (x ∷ cs) c d up (inr h) (inr j) same = one_case x.number cs c d up.1 h j same

legal_held : (days : Reckoning) (time : ℕ) (cs : List Case) (c : Case) → AreLegal days time cs → Held c cs → LegalCase days time c
legal_held days time [] c legal h = absurd h
legal_held days time (x ∷ cs) c legal (inl e) = subst (LegalCase days time) (sym e) legal.0
legal_held days time (x ∷ cs) c legal (inr h) = legal_held days time cs c legal.1 h

-- what is written on a report is legal there
on_right : (at : TurnContext) (g : Registry) (who : Who) (c : Case) (o : Outcome) (cs : List Case) (e : Effect) → last_at 0 c.trail ≤ at.time → Asked at g who e → refusal_on at g who c o e ≡ None → ((d : Case) → Held d cs → d.number ≡ c.number → c ≡ d) → Right_change (reckoning g.settings) at.time cs (change_on at g who c.number c.trail e)
on_right at g who c o cs (Writes d) le asked free one =
    (omega arith, (λ x h same. subst (λ (z : Case). is_next (reckoning g.settings) (last_at 0 z.trail) z.trail (doing_entry g.settings.calendar at.time who c.trail d) ≡ true) (one x h same) (doing_legal (reckoning g.settings) (last_at 0 c.trail) at.time c.trail (actor_of who) d le asked (unfaulted (outcome_refusal o) _ free))))
on_right at g who c o cs _ le asked free one = tt

-- and a report that begins is
alone_right : (at : TurnContext) (g : Registry) (who : Option Who) (o : Outcome) (cs : List Case) (d : Command) (e : Effect) → IsSound g → IsSubmitted g d e → Right_change (reckoning g.settings) at.time cs (change_alone at g who o e)
alone_right at g who o cs d (Submits c form) sound k =
    let known = found_sound k.1.0 g.contexts c sound.contexts k.1.1 in
    (ap (λ b. b && true) (submission_legal at g o c form known.0 known.1 known.2), (let same : (submission_entry at g o c form).at ≡ at.time = opened_time at g o c form in omega (arith, same)))
alone_right at g who o cs d (Sets t proposal) sound k = set_is (Right_change (reckoning g.settings) at.time cs) _ tt (λ x is. tt)
alone_right at g who o cs d _ sound k = tt

judged_right : (days : Reckoning) (time : ℕ) (cs : List Case) (o : Option Told) (ch : Change) (a : Answer) → (o ≡ None → Right_change days time cs ch) → Right_change days time cs (change_of (judged o ch a))
judged_right days time cs None ch a h = h refl
judged_right days time cs (Some x) ch a h = tt

verdict_right : (p : Plain) (at : TurnContext) (q : Request) (t : Target) → IsSound p.registry → Called (need q.command) t → ((who : Who) (c : Case) → t ≡ On who c → Held c p.cases) → Ascend 0 p.cases → AreLegal (reckoning p.registry.settings) at.time p.cases →
    Right_change (reckoning p.registry.settings) at.time p.cases (change_of (verdict_on p at q t))
verdict_right p at q (Nobody x) sound called known up legal = tt
verdict_right p at q (Alone who) sound called known up legal = judged_right (reckoning p.registry.settings) at.time p.cases _ _ _ (λ free.
    alone_right at p.registry who q.outcome p.cases q.command (effect_at p at q who []) sound (submitted at p.registry who q.session [] q.command))
verdict_right p at q (On who c) sound called known up legal = judged_right (reckoning p.registry.settings) at.time p.cases _ _ _ (λ free.
    let here : LegalCase (reckoning p.registry.settings) at.time c = legal_held (reckoning p.registry.settings) at.time p.cases c legal (known who c refl) in
    on_right at p.registry who c q.outcome p.cases (effect_at p at q (Some who) c.trail) here.1 (effect_asked at p.registry who q.session c.trail q.command sound called) free
    (λ d h same. one_case 0 p.cases c d up (known who c refl) h (sym same)))

pub turn_legal : (p : Plain) (at : TurnContext) (q : Request) → IsSound p.registry → ((who : Who) (c : Case) → target p q.session q.command ≡ On who c → Held c p.cases) → Ascend 0 p.cases → AreLegal (reckoning p.registry.settings) at.time p.cases →
    AreLegal (reckoning p.registry.settings) at.time (cases_after (change_of (verdict_on p at q (target p q.session q.command))) p.numbering.last p.cases)
turn_legal p at q sound known up legal =
    change_legal (reckoning p.registry.settings) at.time p.numbering.last p.cases (change_of (verdict_on p at q (target p q.session q.command))) (verdict_right p at q (target p q.session q.command) sound (target_called p q.session q.command) known up legal) legal
