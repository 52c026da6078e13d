-- A number is drawn exactly by a submission that is answered 201.
use Rattle.std.proofs.Common.{◌≡◌, ◌≢◌, ◌==◌, ◌+◌, ℕ, Bool, true, false, cond, eqb, List, [], ◌∷◌, Option, Some, None, find, map, sum_by, refl, sym, ap, ◌∙◌, subst, arith}
use Rattle.std.specs.Prelude.{◌&&◌, nat_lt, nat_le, max}
use Rattle.std.proofs.lemmas.Bool.Decides.{nat_tests}
use Rattle.std.proofs.lemmas.List.Sums.{sum_by-cons}
use Rattle.wb_base.specs.declared.callers.Presented.{Presented}
use Rattle.wb_model.specs.declared.body.Told.{Told}
use Rattle.wb_model.specs.declared.command.Command.{Command}
use Rattle.wb_model.specs.declared.command.Command.TheVariants as commands
use Rattle.wb_model.specs.Changes.{TurnContext, Change, Answer, Verdict, judged}
use Rattle.wb_model.specs.Commands.{is_submission}
use Rattle.wb_model.specs.Drawn.{numbers_of, is_accepted}
use Rattle.wb_model.specs.Effects.{Effect, Misses, Looks, Reads, Writes, Erases, Submits, Comes, Goes, Sets, in_open}
use Rattle.wb_model.specs.Host.{Tables, Sealed, purged, purge_at, at_frame, ruling_at, drawn, is_draw, change_of, reply_by, ruling, reply_to, host_after}
use Rattle.wb_model.specs.Legal.{ascends_from, ascends}
use Rattle.wb_model.specs.OnReports.{refusal_on, change_on, answer_on}
use Rattle.wb_model.specs.Past.{Past}
use Rattle.wb_model.specs.Pasts.{AllOpened, standing_hosts, held_tenancy, tenants, reply_in, with_turn}
use Rattle.wb_model.specs.Refusals.{keeper_failed, no_memory}
use Rattle.wb_model.specs.Requests.{Frame, Outcome, Request, plain_part}
use Rattle.wb_model.specs.Rules.{refusal_alone, change_alone, answer_alone, effect_at, verdict_on}
use Rattle.wb_model.specs.Scripts.{Loss, NotLost, ByKeeper, ByMemory, Unread, play_asked}
use Rattle.wb_model.specs.Settings.{setting_of}
use Rattle.wb_model.specs.Submissions.{drawing}
use Rattle.wb_model.specs.Tables.{Registry, Plain, Who}
use Rattle.wb_model.specs.Targets.{Target, Nobody, Alone, On, target}
use Rattle.wb_model.specs.Tenants.{Tenancy, Hosts, one, has_id, tenant_at, without_tenant, tenancy_reply, one_after}
use Rattle.wb_model.proofs.Answered.{Answers, refusal_answers, no_tenant_status, keeper_status, memory_status}
use Rattle.wb_model.proofs.Effects.{IsSubmitted, submitted, in_open_is, set_is}
use Rattle.wb_model.proofs.PartLaw.{reply_in_law, turn_in_law}
use Rattle.wb_model.proofs.Reopenings.{tenants_ascend}

-- ---- a request that is no submission draws nothing

judged_draws : (o : Option Told) (ch : Change) (a : Answer) → is_draw ch ≡ false → is_draw (change_of (judged o ch a)) ≡ false
judged_draws None ch a e = e
judged_draws (Some x) ch a e = refl

alone_draws : (at : TurnContext) (g : Registry) (who : Option Who) (o : Outcome) (d : Command) (does : Effect) → is_submission d ≡ false → IsSubmitted g d does → is_draw (change_alone at g who o does) ≡ false
alone_draws at g who o d (Submits c form) other is = absurd (grind (arith, other, is.0))
alone_draws at g who o d (Sets t proposal) other is = set_is (λ ch. is_draw ch ≡ false) (setting_of t g proposal) refl (λ x found. refl)
alone_draws at g who o d (Comes role) other is = refl
alone_draws at g who o d (Goes turn) other is = refl
alone_draws at g who o d Misses other is = refl
alone_draws at g who o d (Looks view) other is = refl
alone_draws at g who o d (Reads part) other is = refl
alone_draws at g who o d (Writes doing) other is = refl
alone_draws at g who o d Erases other is = refl

on_draws : (at : TurnContext) (g : Registry) (who : Who) (n : ℕ) (trail : List _) (does : Effect) → is_draw (change_on at g who n trail does) ≡ false
on_draws at g who n trail (Submits c form) = refl
on_draws at g who n trail (Sets t proposal) = refl
on_draws at g who n trail (Comes role) = refl
on_draws at g who n trail (Goes turn) = refl
on_draws at g who n trail Misses = refl
on_draws at g who n trail (Looks view) = refl
on_draws at g who n trail (Reads part) = refl
on_draws at g who n trail (Writes doing) = refl
on_draws at g who n trail Erases = refl

others_draw : (p : Plain) (at : TurnContext) (q : Request) (t : Target) → is_submission q.command ≡ false → is_draw (change_of (verdict_on p at q t)) ≡ false
others_draw p at q (Nobody refusal) other = refl
others_draw p at q (Alone who) other =
    let does = effect_at p at q who [] in
    judged_draws (refusal_alone p.registry (drawing at p) q.outcome does) (change_alone at p.registry who q.outcome does) (answer_alone at p who does) (alone_draws at p.registry who q.outcome q.command does other (submitted at p.registry who q.session [] q.command))
others_draw p at q (On who c) other =
    let does = effect_at p at q (Some who) c.trail in
    judged_draws (refusal_on at p.registry who c q.outcome does) (change_on at p.registry who c.number c.trail does) (answer_on at p.registry who c does) (on_draws at p.registry who c.number c.trail does)

-- ---- a submission draws where it is answered 201

abbrev Draws : Verdict → Sealed → Type 0
Draws v sealed = is_draw (change_of v) ≡ ((reply_by v sealed).status == 201)

not_made : (n : ℕ) → n ≢ 201 → false ≡ (n == 201)
not_made n other = by (n == 201) refl
  where
    by : (b : Bool) → (n == 201) ≡ b → false ≡ b
    by false is = refl
    by true is = absurd (other (grind (arith, nat_tests, is)))

judged_submission : (o : Option Told) (ch : Change) (a : Answer) (sealed : Sealed) → Answers o → (o ≡ None → Draws (judged None ch a) sealed) → Draws (judged o ch a) sealed
judged_submission None ch a sealed refused made = made refl
judged_submission (Some x) ch a sealed refused made = not_made x.status refused

submission_draws : (p : Plain) (at : TurnContext) (o : Outcome) (c : ℕ) (sealed : Sealed) →
    Draws (judged (refusal_alone p.registry (drawing at p) o (in_open Submits c p.registry)) (change_alone at p.registry None o (in_open Submits c p.registry)) (answer_alone at p None (in_open Submits c p.registry))) sealed
submission_draws p at o c sealed =
    judged_submission (refusal_alone p.registry (drawing at p) o (in_open Submits c p.registry)) _ _ sealed (refusal_answers p.registry (drawing at p) o c)
    (in_open_is (λ e. refusal_alone p.registry (drawing at p) o e ≡ None → Draws (judged None (change_alone at p.registry None o e) (answer_alone at p None e)) sealed) Submits c p.registry
    (λ e. absurd (grind (arith, e))) (λ x y is form e. refl))

-- ---- each request

ruling_draws : (t : Tables) (at : TurnContext) (session : Presented) (d : Command) (close : Bool) (sealed : Sealed) →
    is_draw (change_of (ruling t at (record { session = session; command = d; close = close }))) ≡ is_accepted d (reply_by (ruling t at (record { session = session; command = d; close = close })) sealed)
ruling_draws t at session (commands.Submit tenant c answers) close sealed =
    submission_draws t.plain at (plain_part t.plain (record { session = session; command = commands.Submit tenant c answers; close = close })).outcome c sealed
ruling_draws t at session d close sealed =
    others_draw t.plain at (plain_part t.plain (record { session = session; command = d; close = close })) (target t.plain session d) refl

-- the tables after a request have drawn one number more where it is an accepted submission
step_draws : (turns now : ℕ) (t : Tables) (f : Frame) → (host_after (one turns now t) f).tables.plain.numbering.last ≡ t.plain.numbering.last + cond (is_accepted f.asked.command (reply_to (one turns now t) f)) 1 0
step_draws turns now t f =
    by (is_draw (change_of (ruling_at (one turns now t) f))) ∙ ap (λ b. t.plain.numbering.last + cond b 1 0) (ruling_draws (purge_at (one turns now t) f) (at_frame (one turns now t) f) f.asked.session f.asked.command f.asked.close (purge_at (one turns now t) f).sealed)
  where
    by : (b : Bool) → (cond b (drawn (max now f.moment) t.plain.registry.settings t.plain.numbering) t.plain.numbering).last ≡ t.plain.numbering.last + cond b 1 0
    by true = refl
    by false = grind arith

-- ---- over all tenants

abbrev last_of : Tenancy → ℕ
last_of x = x.tables.plain.numbering.last

-- the tenants after the one that a turn names only purge
others_stay : (turns now k : ℕ) (f : Frame) (xs : List Tenancy) → nat_le (tenant_at f) k ≡ true → ascends_from k (map (λ (x : Tenancy). x.id) xs) ≡ true → sum_by last_of (map (one_after turns now f) xs) ≡ sum_by last_of xs
others_stay turns now k f [] le up = refl
others_stay turns now k f (x ∷ xs) le up = by (nat_lt k x.id) (eqb x.id (tenant_at f)) refl refl up (λ below. others_stay turns now x.id f xs below)
  where
    by : (b c : Bool) → nat_lt k x.id ≡ b → eqb x.id (tenant_at f) ≡ c → (b && ascends_from x.id (map (λ (y : Tenancy). y.id) xs)) ≡ true →
        (nat_le (tenant_at f) x.id ≡ true → ascends_from x.id (map (λ (y : Tenancy). y.id) xs) ≡ true → sum_by last_of (map (one_after turns now f) xs) ≡ sum_by last_of xs) →
        sum_by last_of (map (one_after turns now f) (x ∷ xs)) ≡ sum_by last_of (x ∷ xs)
    by false c lt is e ih = absurd (grind (arith, e))
    by true true lt is e ih = absurd (grind (arith, nat_tests, lt, is, le))
    by true false lt is e ih =
        let here : last_of (one_after turns now f x) ≡ last_of x = ap (λ b. (cond b (host_after (one turns now x.tables) f).tables (purged (max now f.moment) x.tables)).plain.numbering.last) is in
        let rest : sum_by last_of (map (one_after turns now f) xs) ≡ sum_by last_of xs = ih (grind (arith, nat_tests, lt, le)) e in
        omega (arith, here, rest, sum_by-cons last_of (one_after turns now f x) (map (one_after turns now f) xs), sum_by-cons last_of x xs)

-- what the tenant that is found draws
abbrev drawn_by : ℕ → ℕ → Frame → Option Tenancy → ℕ
drawn_by turns now f None = 0
drawn_by turns now f (Some x) = cond (is_accepted f.asked.command (reply_to (one turns now x.tables) f)) 1 0

tail_ascends : (k : ℕ) (us : List ℕ) → ascends_from k us ≡ true → ascends us ≡ true
tail_ascends k [] up = refl
tail_ascends k (u ∷ us) up = by (nat_lt k u) up
  where
    by : (b : Bool) → (b && ascends_from u us) ≡ true → ascends_from u us ≡ true
    by true e = e
    by false e = absurd (grind (arith, e))

lasts_after : (turns now : ℕ) (f : Frame) (xs : List Tenancy) → ascends (map (λ (x : Tenancy). x.id) xs) ≡ true →
    sum_by last_of (map (one_after turns now f) xs) ≡ sum_by last_of xs + drawn_by turns now f (find (has_id (tenant_at f)) xs)
lasts_after turns now f [] up = refl
lasts_after turns now f (x ∷ xs) up = by (eqb x.id (tenant_at f)) refl (lasts_after turns now f xs (tail_ascends x.id (map (λ (y : Tenancy). y.id) xs) up)) (λ le. others_stay turns now x.id f xs le up)
  where
    by : (c : Bool) → eqb x.id (tenant_at f) ≡ c →
        sum_by last_of (map (one_after turns now f) xs) ≡ sum_by last_of xs + drawn_by turns now f (find (has_id (tenant_at f)) xs) →
        (nat_le (tenant_at f) x.id ≡ true → sum_by last_of (map (one_after turns now f) xs) ≡ sum_by last_of xs) →
        sum_by last_of (map (one_after turns now f) (x ∷ xs)) ≡ sum_by last_of (x ∷ xs) + drawn_by turns now f (cond c (Some x) (find (has_id (tenant_at f)) xs))
    by true is ih stay =
        let here : last_of (one_after turns now f x) ≡ last_of x + cond (is_accepted f.asked.command (reply_to (one turns now x.tables) f)) 1 0 =
        ap (λ b. (cond b (host_after (one turns now x.tables) f).tables (purged (max now f.moment) x.tables)).plain.numbering.last) is ∙ step_draws turns now x.tables f in
        omega (arith, here, stay (grind (arith, nat_tests, is)), sum_by-cons last_of (one_after turns now f x) (map (one_after turns now f) xs), sum_by-cons last_of x xs)
    by false is ih stay =
        let here : last_of (one_after turns now f x) ≡ last_of x = ap (λ b. (cond b (host_after (one turns now x.tables) f).tables (purged (max now f.moment) x.tables)).plain.numbering.last) is in
        omega (arith, here, ih, sum_by-cons last_of (one_after turns now f x) (map (one_after turns now f) xs), sum_by-cons last_of x xs)

-- ---- over a past

not_accepted : (d : Command) (told : Told) → told.status ≢ 201 → is_accepted d told ≡ false
not_accepted d told ne = by (is_submission d) (told.status == 201) refl
  where
    by : (b c : Bool) → (told.status == 201) ≡ c → (b && c) ≡ false
    by true true is = absurd (ne (grind (arith, nat_tests, is)))
    by true false is = refl
    by false c is = refl

reply_draws : (h : Hosts) (f : Frame) (o : Option Tenancy) → drawn_by h.turns h.now f o ≡ cond (is_accepted f.asked.command (tenancy_reply h f o)) 1 0
reply_draws h f None = ap (λ b. cond b 1 0) (sym (not_accepted f.asked.command (without_tenant (tenant_at f)) (no_tenant_status (tenant_at f))))
reply_draws h f (Some x) = refl

ids_of : (past : Past AllOpened) (ts : List ℕ) → map (λ (x : Tenancy). x.id) (map (held_tenancy past) ts) ≡ ts
ids_of past [] = refl
ids_of past (t ∷ ts) = ap (λ us. t ∷ us) (ids_of past ts)

pub made_draws : (past : Past AllOpened) (f : Frame) → numbers_of (standing_hosts (with_turn past f)) ≡ numbers_of (standing_hosts past) + cond (is_accepted f.asked.command (reply_in past f)) 1 0
made_draws past f =
    let h : Hosts = standing_hosts past in
    let up : ascends (map (λ (x : Tenancy). x.id) h.list) ≡ true = subst (λ ts. ascends ts ≡ true) (sym (ids_of past (tenants past))) (tenants_ascend past) in
    ap numbers_of (sym (turn_in_law past f)) ∙ (lasts_after h.turns h.now f h.list up
    ∙ ap (λ n. numbers_of h + n) (reply_draws h f (find (has_id (tenant_at f)) h.list) ∙ ap (λ told. cond (is_accepted f.asked.command told) 1 0) (reply_in_law past f)))

stays : (n : ℕ) (d : Command) (told : Told) → told.status ≢ 201 → n ≡ n + cond (is_accepted d told) 1 0
stays n d told ne = omega arith ∙ ap (λ b. n + cond b 1 0) (sym (not_accepted d told ne))

-- each turn, lost or not
pub loss_draws : (past : Past AllOpened) (f : Frame) (loss : Loss) → numbers_of (standing_hosts (play_asked past f loss).past) ≡ numbers_of (standing_hosts past) + cond (is_accepted f.asked.command (play_asked past f loss).reply.told) 1 0
loss_draws past f NotLost = made_draws past f
loss_draws past f ByKeeper = stays (numbers_of (standing_hosts past)) f.asked.command keeper_failed keeper_status
loss_draws past f ByMemory = stays (numbers_of (standing_hosts past)) f.asked.command no_memory memory_status
loss_draws past f (Unread close) = stays (numbers_of (standing_hosts past)) f.asked.command no_memory memory_status
