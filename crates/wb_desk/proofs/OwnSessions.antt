-- Who logs out ends an own session, and a report that begins has a receipt of its own.
use Rattle.std.proofs.Common.{◌≡◌, ℕ, ◌<◌, Bool, true, false, cond, List, [], ◌∷◌, length, map, find, get_or, Option, Some, None, refl, sym, ap, ◌∙◌, subst, arith}
use Rattle.std.specs.Prelude.{◌==◌, ◌&&◌}
use Rattle.std.proofs.lemmas.Bool.Decides.{nat_tests}
use Rattle.wb_base.specs.declared.callers.Presented.{Presented}
use Rattle.wb_base.specs.declared.callers.Presented.TheVariants as presented
use Rattle.wb_base.specs.declared.callers.Role.{Role}
use Rattle.wb_base.specs.Secrets.{digest, same_digest}
use Rattle.wb_custody.specs.declared.sealed.SealedItem.{SealedItem}
use Rattle.wb_model.specs.declared.body.Told.{Told}
use Rattle.wb_model.specs.declared.command.Asked.{Asked}
use Rattle.wb_model.specs.declared.command.Command.{Command}
use Rattle.wb_model.specs.declared.command.Command.TheVariants as commands
use Rattle.wb_model.specs.declared.entry.Entry.{Entry}
use Rattle.wb_model.specs.declared.registry.UserItem.{UserItem}
use Rattle.wb_model.specs.Commands.{Any_session, effect_of}
use Rattle.wb_model.specs.Changes.{TurnContext, Change, LogsOut, Answer, judged}
use Rattle.wb_model.specs.Effects.{Effect, Misses, Looks, Reads, Writes, Submits, Comes, Goes, Sets, caller, Erases}
use Rattle.wb_model.specs.Host.{live_cases, purged, change_of}
use Rattle.wb_model.specs.Opened.{Apart, has_turn}
use Rattle.wb_model.specs.OnReports.{change_on}
use Rattle.wb_model.specs.Requests.{Outcome, Request, plain_part}
use Rattle.wb_model.specs.Rules.{change_alone, effect_at, verdict_on, verdict}
use Rattle.wb_model.specs.Settings.{setting_of}
use Rattle.wb_model.specs.Tables.{Registry, Plain, Case, Session, Who, TheUser, TheReporter, same_who, session, user, report, lasts}
use Rattle.wb_model.specs.Targets.{Target, Nobody, Alone, On, some_user_target, own_case, who_target, session_target, target}
use Rattle.wb_model.proofs.Effects.{comes_is, in_open_is, identity_is, share_is, transfer_is, decide_is, set_is}
use Rattle.wb_model.proofs.Found.{find_true}
use Rattle.wb_model.proofs.Leaving.{apart_filter}
use Rattle.wb_model.proofs.Receipts.{HasOwn, verdict_own as receipt_own}
use Rattle.wb_tables.specs.declared.turn_context.TurnContext.{TurnContext as KeptAt}
use Rattle.wb_commands.specs.declared.plan.TurnPlan.{TurnPlan}
use Rattle.wb_commands.specs.declared.mutation.Mutation.{Mutation}
use Rattle.wb_commands.specs.declared.mutation.Mutation.TheVariants as planned
use Rattle.wb_tables.specs.TurnContexts.{at_of}
use Rattle.wb_commands.specs.Plans.{IsFit, PlansTurn, begins, change_of as planned_change_of}
use Rattle.wb_tables.specs.Kept.{PlainTenancy, place_of, plain_of, tables_of, live_place, live_plain}
use Rattle.wb_tables.specs.Logins.{who_seen}
use Rattle.wb_tables.specs.Places.{ArePlaces}
use Rattle.wb_tables.specs.Receipted.{HasOwnReceipt}
use Rattle.wb_tables.specs.declared.tenancy.Tenancy.{Tenancy as KeptTenancy}
use Rattle.wb_tables.proofs.PlacesAt.{place_at}
use Rattle.wb_commands.specs.Made.{AreBy, IsOwnMutation}
use Rattle.wb_desk.proofs.Whole.{live_at}

-- ---- the session of a turn

same_self : (w : Who) → same_who w w ≡ true
same_self (TheUser u) = grind (arith, nat_tests)
same_self (TheReporter n) = grind (arith, nat_tests)

none_by : (turn : ℕ) (who : Who) (ss : List Session) → find (has_turn turn) ss ≡ None → AreBy turn who ss
none_by turn who [] none = tt
none_by turn who (s ∷ ss) none =
    let other : (s.turn == turn) ≡ false = grind (arith, none) in
    let later : find (has_turn turn) ss ≡ None = grind (arith, other, none) in
    ((λ is. absurd (grind (arith, is, other))), none_by turn who ss later)

none_found : (turn : ℕ) (p : Session → Bool) (ss : List Session) (s : Session) → find (has_turn turn) ss ≡ None → find (λ z. (z.turn == turn) && p z) ss ≡ Some s → ⊥
none_found turn p [] s none e = grind (arith, e)
none_found turn p (z ∷ ss) s none e =
    let other : (z.turn == turn) ≡ false = grind (arith, none) in
    let later : find (has_turn turn) ss ≡ None = grind (arith, other, none) in
    let found : find (λ y. (y.turn == turn) && p y) ss ≡ Some s = grind (arith, other, e) in
    none_found turn p ss s later found

-- where no two sessions are of one turn, that of a turn that was found is the only one
one_by : (turn : ℕ) (p : Session → Bool) (ss : List Session) (s : Session) → Apart has_turn ss → find (λ z. (z.turn == turn) && p z) ss ≡ Some s → AreBy turn s.who ss
one_by turn p [] s apart e = absurd (grind (arith, e))
one_by turn p (z ∷ ss) s apart e = by (one_by turn p ss s apart.1) (z.turn == turn) refl (p z) refl e
  where
    by : (find (λ y. (y.turn == turn) && p y) ss ≡ Some s → AreBy turn s.who ss) → (b : Bool) → (z.turn == turn) ≡ b → (d : Bool) → p z ≡ d → cond (b && d) (Some z) (find (λ y. (y.turn == turn) && p y) ss) ≡ Some s → AreBy turn s.who (z ∷ ss)
    by rest true is true at f = let same : z ≡ s = cc in ((λ k. ap (λ (y : Session). same_who z.who y.who) (sym same) ∙ same_self z.who), none_by turn s.who ss (apart.0 turn is))
    by rest true is false at f = absurd (none_found turn p ss s (apart.0 turn is) f)
    by rest false is d at f = ((λ k. absurd (grind (arith, k, is))), rest f)

-- ---- who logs out

-- each session of the turn is of whom the target names
abbrev OwnTarget : ℕ → List Session → Target → Type 0
OwnTarget turn ss (Nobody x) = Unit {0}
OwnTarget turn ss (Alone who) = AreBy turn (TheUser (caller who)) ss
OwnTarget turn ss (On who c) = AreBy turn (TheReporter c.number) ss

target_own : (p : Plain) (turn : ℕ) (secret : List ℕ) → Apart has_turn p.sessions → OwnTarget turn p.sessions (session_target p Any_session (session p.registry.settings.salt (presented.Token turn secret) p.sessions))
target_own p turn secret apart = by (session p.registry.settings.salt (presented.Token turn secret) p.sessions) refl
  where
    users : (u : ℕ) (has : Role) (o : Option UserItem) → user u p.registry.users ≡ o → AreBy turn (TheUser u) p.sessions → OwnTarget turn p.sessions (some_user_target p has Any_session o)
    users u has None e all = tt
    users u has (Some x) e all = let same : u ≡ x.id = (let is = find_true (λ (y : UserItem). y.id == u) p.registry.users x e in grind (arith, nat_tests, is)) in subst (λ k. AreBy turn (TheUser k) p.sessions) same all

    reports : (n : ℕ) (o : Option Case) → report n p.cases ≡ o → AreBy turn (TheReporter n) p.sessions → OwnTarget turn p.sessions (own_case n o)
    reports n None e all = tt
    reports n (Some c) e all = let same : n ≡ c.number = (let is = find_true (λ (y : Case). y.number == n) p.cases c e in grind (arith, nat_tests, is)) in subst (λ k. AreBy turn (TheReporter k) p.sessions) same all

    callers : (has : Role) (w : Who) → AreBy turn w p.sessions → OwnTarget turn p.sessions (who_target p has Any_session w)
    callers has (TheUser u) all = users u has (user u p.registry.users) refl all
    callers has (TheReporter n) all = reports n (report n p.cases) refl all

    by : (o : Option Session) → session p.registry.settings.salt (presented.Token turn secret) p.sessions ≡ o → OwnTarget turn p.sessions (session_target p Any_session o)
    by None e = tt
    by (Some s) e = callers s.role s.who (one_by turn (λ (z : Session). same_digest z.digest (digest p.registry.settings.salt secret)) p.sessions s apart e)

-- a session ends by a logout alone, which shows it
abbrev Leaves : Presented → Command → Effect → Type 0
Leaves s d (Goes turn) = (t : ℕ) × (secret : List ℕ) × (d ≡ commands.Logout t) × (s ≡ presented.Token turn secret)
Leaves s d e = Unit {0}

leaves : (at : TurnContext) (g : Registry) (who : Option Who) (s : Presented) (trail : List Entry) (d : Command) → Leaves s d (effect_of at g who s trail d)
leaves at g who (presented.Token turn secret) trail (commands.Logout t) = (t, secret, refl, refl)
leaves at g who presented.None trail (commands.Logout t) = tt
leaves at g who presented.Bad trail (commands.Logout t) = tt
leaves at g who s trail (commands.Submit t c answers) = in_open_is (Leaves s (commands.Submit t c answers)) Submits c g tt (λ x y is form. tt)
leaves at g who s trail (commands.ContextOf t c) = in_open_is (Leaves s (commands.ContextOf t c)) _ c g tt (λ x y is form. tt)
leaves at g who s trail (commands.Login t name password) = comes_is (Leaves s (commands.Login t name password)) who g.users tt (λ role. tt)
leaves at g who s trail (commands.ReceiptLogin t receipt) = comes_is (Leaves s (commands.ReceiptLogin t receipt)) who g.users tt (λ role. tt)
leaves at g who s trail (commands.GiveIdentity t answers) = identity_is (Leaves s (commands.GiveIdentity t answers)) trail g tt tt
leaves at g who s trail (commands.Share t n u) = share_is (Leaves s (commands.Share t n u)) u g tt tt
leaves at g who s trail (commands.Transfer t n c) = transfer_is (Leaves s (commands.Transfer t n c)) c g tt (λ x is. tt)
leaves at g who s trail (commands.Decide t n k decision reason withhold) = decide_is (Leaves s (commands.Decide t n k decision reason withhold)) k g trail decision reason withhold tt (λ r y. tt)
leaves at g who s trail _ = tt

judged_leaves : (o : Option Told) (ch : Change) (a : Answer) (turn : ℕ) (who : Who) → change_of (judged o ch a) ≡ LogsOut turn who → ch ≡ LogsOut turn who
judged_leaves None ch a turn who e = e
judged_leaves (Some x) ch a turn who e = absurd (grind (arith, e))

moved : (k turn : ℕ) (v who : Who) (ss : List Session) → LogsOut k v ≡ LogsOut turn who → AreBy k v ss → AreBy turn who ss
moved k turn v who ss e all = let turns : k ≡ turn = cc in let callers : v ≡ who = cc in subst (λ n. AreBy n who ss) turns (subst (λ w. AreBy k w ss) callers all)

alone_own : (at : TurnContext) (g : Registry) (v : Option Who) (o : Outcome) (s : Presented) (d : Command) (turn : ℕ) (who : Who) (ss : List Session) (e : Effect) → ((k t : ℕ) (secret : List ℕ) → d ≡ commands.Logout t → s ≡ presented.Token k secret → AreBy k (TheUser (caller v)) ss)
    → Leaves s d e → change_alone at g v o e ≡ LogsOut turn who → AreBy turn who ss
alone_own at g v o s d turn who ss (Goes k) own is e = moved k turn (TheUser (caller v)) who ss e (own k is.0 is.1 is.2 is.3)
alone_own at g v o s d turn who ss (Sets t proposal) own is e = absurd (set_is (λ ch. ch ≡ LogsOut turn who → ⊥) (setting_of t g proposal) (λ z. grind (arith, z)) (λ x k z. grind (arith, z)) e)
alone_own at g v o s d turn who ss Misses own is e = absurd (grind (arith, e))
alone_own at g v o s d turn who ss (Looks view) own is e = absurd (grind (arith, e))
alone_own at g v o s d turn who ss (Reads part) own is e = absurd (grind (arith, e))
alone_own at g v o s d turn who ss (Writes doing) own is e = absurd (grind (arith, e))
alone_own at g v o s d turn who ss (Submits c form) own is e = absurd (grind (arith, e))
alone_own at g v o s d turn who ss (Comes role) own is e = absurd (grind (arith, e))
alone_own at g v o s d turn who ss Erases own is e = absurd (grind (arith, e))

on_own : (at : TurnContext) (g : Registry) (v : Who) (n : ℕ) (trail : List Entry) (s : Presented) (d : Command) (turn : ℕ) (who : Who) (ss : List Session) (e : Effect) → ((k t : ℕ) (secret : List ℕ) → d ≡ commands.Logout t → s ≡ presented.Token k secret → AreBy k (TheReporter n) ss)
    → Leaves s d e → change_on at g v n trail e ≡ LogsOut turn who → AreBy turn who ss
on_own at g v n trail s d turn who ss (Goes k) own is e = moved k turn (TheReporter n) who ss e (own k is.0 is.1 is.2 is.3)
on_own at g v n trail s d turn who ss Misses own is e = absurd (grind (arith, e))
on_own at g v n trail s d turn who ss (Looks view) own is e = absurd (grind (arith, e))
on_own at g v n trail s d turn who ss (Reads part) own is e = absurd (grind (arith, e))
on_own at g v n trail s d turn who ss (Writes doing) own is e = absurd (grind (arith, e))
on_own at g v n trail s d turn who ss (Submits c form) own is e = absurd (grind (arith, e))
on_own at g v n trail s d turn who ss (Comes role) own is e = absurd (grind (arith, e))
on_own at g v n trail s d turn who ss Erases own is e = absurd (grind (arith, e))
on_own at g v n trail s d turn who ss (Sets t proposal) own is e = absurd (grind (arith, e))

verdict_own : (p : Plain) (at : TurnContext) (q : Request) (t : Target) (turn : ℕ) (who : Who) → ((k t' : ℕ) (secret : List ℕ) → q.command ≡ commands.Logout t' → q.session ≡ presented.Token k secret → OwnTarget k p.sessions t)
    → change_of (verdict_on p at q t) ≡ LogsOut turn who → AreBy turn who p.sessions
verdict_own p at q (Nobody x) turn who own e = absurd (grind (arith, e))
verdict_own p at q (Alone v) turn who own e = alone_own at p.registry v q.outcome q.session q.command turn who p.sessions (effect_at p at q v []) own (leaves at p.registry v q.session [] q.command) (judged_leaves _ _ _ turn who e)
verdict_own p at q (On v c) turn who own e = on_own at p.registry v c.number c.trail q.session q.command turn who p.sessions (effect_at p at q (Some v) c.trail) own (leaves at p.registry (Some v) q.session c.trail q.command) (judged_leaves _ _ _ turn who e)

-- where no two sessions are of one turn, a logout ends a session of its caller
pub own_logout : (p : Plain) (at : TurnContext) (q : Request) (turn : ℕ) (who : Who) → Apart has_turn p.sessions → change_of (verdict_on p at q (target p q.session q.command)) ≡ LogsOut turn who → AreBy turn who p.sessions
own_logout p at q turn who apart e = verdict_own p at q (target p q.session q.command) turn who
    (λ k t secret d s. subst (λ x. OwnTarget k p.sessions (target p x q.command)) (sym s) (subst (λ x. OwnTarget k p.sessions (target p (presented.Token k secret) x)) (sym d) (target_own p k secret apart))) e

-- ---- a report that begins

own_begun : (p : Plain) (at : TurnContext) (q : Request) (trail : List Entry) (e : Entry) → trail ≡ e ∷ [] → change_of (verdict p at q) ≡ begins trail → HasOwnReceipt trail p.cases
own_begun p at q trail e one is =
    let own = subst (HasOwn p) (is ∙ ap begins one) (receipt_own p at q (target p q.session q.command)) in
    subst (λ es. HasOwnReceipt es p.cases) (sym one) (λ d has. own d 0 has)

-- ---- what is planned

planned_own : (p : Plain) (at : TurnContext) (q : Request) (t : ℕ) (g : Registry) (time : ℕ) (x : KeptTenancy) (c : Mutation) → Apart has_turn p.sessions → IsFit time x c → change_of (verdict p at q) ≡ planned_change_of t g c → IsOwnMutation p c
planned_own p at q t g time x (planned.LogsOut turn who) apart fit e = own_logout p at q turn (who_seen who) apart e
planned_own p at q t g time x (planned.Begins o) apart fit e = own_begun p at q o.case.items fit.1.0 fit.1.1 e
planned_own p at q t g time x _ apart fit e = tt

-- over the tables of a tenant at a place, once they are purged
pub own_at : (turns i : ℕ) (at : KeptAt) (asked : Asked) (plan : TurnPlan) (items : List SealedItem) (ks ls : List KeptTenancy) (d y : KeptTenancy) → ArePlaces turns 0 items (map place_of ks) → map place_of ls ≡ map (live_place at.time) (map place_of ks) → i < length ks → IsFit at.time y plan.change
    → PlansTurn (get_or ks i d).configuration.tenant (purged at.time (tables_of items (place_of (get_or ks i d)))) (at_of at) asked plan → IsOwnMutation (plain_of (get_or ls i d)) plan.change
own_at turns i at asked plan items ks ls d y all e lt fit h =
    let x = get_or ks i d in
    let p : Plain = live_plain at.time (plain_of x) in
    subst (λ (z : PlainTenancy). IsOwnMutation z.plain plan.change) (sym ((live_at at.time i ks ls e lt).place d))
    (planned_own p (at_of at) (plain_part p asked) x.configuration.tenant p.registry at.time y plan.change (apart_filter has_turn (lasts at.time (live_cases (plain_of x) at.time)) (plain_of x).sessions (place_at turns 0 i items ks d all lt).plain.logins) fit h.change)
