-- A request that changes something has something to keep, but for logins and logouts.
use Rattle.std.proofs.Common.{◌≡◌, ℕ, Bool, true, false, cond, find, map, List, [], Option, Some, None, refl, sym, ap, ◌∙◌, arith}
use Rattle.wb_model.specs.declared.body.Told.{Told}
use Rattle.wb_model.specs.declared.command.Asked.{Asked}
use Rattle.wb_model.specs.declared.command.Command.{Command}
use Rattle.wb_model.specs.declared.command.Command.TheVariants as commands
use Rattle.wb_model.specs.declared.entry.Entry.{Entry}
use Rattle.wb_model.specs.declared.event.What.TheVariants.{Idle}
use Rattle.wb_model.specs.Changes.{TurnContext, Change, Nothing, Begins, Answer, Verdict, Refused, Accepted, judged}
use Rattle.wb_model.specs.Commands.{is_read, is_submission, is_of_sessions}
use Rattle.wb_model.specs.Effects.{Effect, Misses, Looks, Reads, Writes, Erases, Submits, Comes, Goes, Sets}
use Rattle.wb_model.specs.Host.{Tables, Host, change_of, ruling, ruling_at}
use Rattle.wb_model.specs.OnReports.{change_on}
use Rattle.wb_model.specs.Opened.{Opened}
use Rattle.wb_model.specs.Past.{Past, plain, registry, turns, held}
use Rattle.wb_model.specs.Pasts.{AllOpened, part, tenants, has_tenant, time, held_tenancy, what_in}
use Rattle.wb_model.specs.PastTurns.{did, what_by, what_at, verdict_at, target_at, at_frame}
use Rattle.wb_model.specs.Requests.{Frame, Outcome, Request, request, outline}
use Rattle.wb_model.specs.Rules.{change_alone, effect_at, verdict_on}
use Rattle.wb_model.specs.Scripts.{is_kept}
use Rattle.wb_model.specs.Settings.{setting_of}
use Rattle.wb_model.specs.Tables.{Registry, Plain, Who}
use Rattle.wb_model.specs.Targets.{Target, Nobody, Alone, On, trail_at}
use Rattle.wb_model.specs.Tenants.{Tenancy, has_id, one, tenant_at}
use Rattle.wb_model.proofs.Effects.{IsSubmitted, submitted, set_is}
use Rattle.wb_model.proofs.HeldTables.{held_now}
use Rattle.wb_model.proofs.PartLaw.{part_stands, found_tenancy}
use Rattle.wb_model.proofs.TurnLaw.{read_change, no_target}

kept_did : (u : ℕ) (t : Target) (a : Asked) → ((x : Told) → t ≡ Nobody x → ⊥) → is_of_sessions a.command ≡ false → is_kept (did u t a) ≡ true
kept_did u (Nobody x) a some other = absurd (some x refl)
kept_did u (Alone who) a some other = rw other refl
kept_did u (On who c) a some other = rw other refl

keeps : (past : Past Opened) (f : Frame) (u : ℕ) (ch : Change) (ans : Answer) → verdict_at past f ≡ Accepted ch ans → (ch ≡ Nothing → ⊥) → is_of_sessions f.asked.command ≡ false → is_kept (what_at u past f) ≡ true
keeps past f u ch ans e changes other = ap (λ v. is_kept (what_by v u (target_at past f) f.asked)) e ∙ by (is_read f.asked.command) refl
  where
    by : (b : Bool) → is_read f.asked.command ≡ b → is_kept (cond b Idle (did u (target_at past f) f.asked)) ≡ true
    by true reads = absurd (changes (read_change past f (target_at past f) ch ans reads e))
    by false reads = kept_did u (target_at past f) f.asked (λ x is. no_target (plain past (at_frame past f).time) (at_frame past f) (request (registry past) (trail_at (target_at past f)) f.asked) (target_at past f) x ch ans e is) other

-- a turn whose change is not nothing, and which is no login or logout, has something to keep
pub keeps_change : (past : Past Opened) (f : Frame) (u : ℕ) → (change_of (verdict_at past f) ≡ Nothing → ⊥) → is_of_sessions f.asked.command ≡ false → is_kept (what_at u past f) ≡ true
keeps_change past f u changes other = by (verdict_at past f) refl
  where
    by : (v : Verdict) → verdict_at past f ≡ v → is_kept (what_at u past f) ≡ true
    by (Refused x) e = absurd (changes (ap change_of e))
    by (Accepted ch ans) e = keeps past f u ch ans e (λ is. changes (ap change_of e ∙ is)) other

-- the verdict over what the host holds is that of the past
held_verdict : (past : Past AllOpened) (t : ℕ) (f : Frame) → ruling_at (one (turns past) (time past) (held (part t past))) f ≡ verdict_at (part t past) f
held_verdict past t f = ap (λ (h : Host). ruling_at h f) (part_stands t past) ∙ ap (λ (x : Tables). ruling x (at_frame (part t past) f) f.asked) (held_now (part t past) f)

-- so it is of a host of all tenants, where the tenant that the turn names accepts the request
pub keeps_in : (past : Past AllOpened) (f : Frame) (x : Tenancy) → find (has_id (tenant_at f)) (map (held_tenancy past) (tenants past)) ≡ Some x → (change_of (ruling_at (one (turns past) (time past) x.tables) f) ≡ Nothing → ⊥) → is_of_sessions f.asked.command ≡ false
    → is_kept (what_in past f) ≡ true
keeps_in past f x found changes other = by (has_tenant past (tenant_at f)) refl
  where
    by : (b : Bool) → has_tenant past (tenant_at f) ≡ b → is_kept (what_in past f) ≡ true
    by true has =
        let is : Some (held_tenancy past (tenant_at f)) ≡ Some x = sym (ap (λ b. cond b (Some (held_tenancy past (tenant_at f))) None) has) ∙ (sym (found_tenancy past (tenant_at f) (tenants past)) ∙ found) in
        let same : held_tenancy past (tenant_at f) ≡ x = cc in
        ap (λ b. is_kept (cond b (what_at (tenant_at f) (part (tenant_at f) past) f) Idle)) has
        ∙ keeps_change (part (tenant_at f) past) f (tenant_at f) (λ none. changes (ap (λ (y : Tenancy). change_of (ruling_at (one (turns past) (time past) y.tables) f)) (sym same) ∙ (ap change_of (held_verdict past (tenant_at f) f) ∙ none))) other
    by false has =
        let bad : None ≡ Some x = sym (ap (λ b. cond b (Some (held_tenancy past (tenant_at f))) None) has) ∙ (sym (found_tenancy past (tenant_at f) (tenants past)) ∙ found) in
        absurd (grind (arith, bad))

-- ---- a report begins by a submission alone

begun_alone : (at : TurnContext) (g : Registry) (who : Option Who) (o : Outcome) (d : Command) (e : Effect) (entry : Entry) → IsSubmitted g d e → change_alone at g who o e ≡ Begins entry → is_submission d ≡ true
begun_alone at g who o d (Submits c form) entry k e = k.0
begun_alone at g who o d (Sets t proposal) entry k e = absurd (set_is (λ ch. ch ≡ Begins entry → ⊥) (setting_of t g proposal) (λ z. grind (arith, z)) (λ x is z. grind (arith, z)) e)
begun_alone at g who o d Misses entry k e = absurd (grind (arith, e))
begun_alone at g who o d (Looks view) entry k e = absurd (grind (arith, e))
begun_alone at g who o d (Reads part) entry k e = absurd (grind (arith, e))
begun_alone at g who o d (Writes doing) entry k e = absurd (grind (arith, e))
begun_alone at g who o d Erases entry k e = absurd (grind (arith, e))
begun_alone at g who o d (Comes role) entry k e = absurd (grind (arith, e))
begun_alone at g who o d (Goes turn) entry k e = absurd (grind (arith, e))

begun_on : (at : TurnContext) (g : Registry) (who : Who) (n : ℕ) (trail : List Entry) (x : Effect) (entry : Entry) → change_on at g who n trail x ≡ Begins entry → ⊥
begun_on at g who n trail (Writes doing) entry e = grind (arith, e)
begun_on at g who n trail Erases entry e = grind (arith, e)
begun_on at g who n trail (Comes role) entry e = grind (arith, e)
begun_on at g who n trail (Goes turn) entry e = grind (arith, e)
begun_on at g who n trail Misses entry e = grind (arith, e)
begun_on at g who n trail (Looks view) entry e = grind (arith, e)
begun_on at g who n trail (Reads part) entry e = grind (arith, e)
begun_on at g who n trail (Submits c form) entry e = grind (arith, e)
begun_on at g who n trail (Sets t proposal) entry e = grind (arith, e)

begun_judged : (o : Option Told) (ch : Change) (a : Answer) (entry : Entry) → change_of (judged o ch a) ≡ Begins entry → ch ≡ Begins entry
begun_judged None ch a entry e = e
begun_judged (Some x) ch a entry e = absurd (grind (arith, e))

pub submits_only : (p : Plain) (at : TurnContext) (q : Request) (t : Target) (entry : Entry) → change_of (verdict_on p at q t) ≡ Begins entry → is_submission q.command ≡ true
submits_only p at q (Nobody x) entry e = absurd (grind (arith, e))
submits_only p at q (Alone who) entry e = begun_alone at p.registry who q.outcome q.command (effect_at p at q who []) entry (submitted at p.registry who q.session [] q.command) (begun_judged _ _ _ entry e)
submits_only p at q (On who c) entry e = absurd (begun_on at p.registry who c.number c.trail (effect_at p at q (Some who) c.trail) entry (begun_judged _ _ _ entry e))

-- and that is no login or logout
pub not_of_sessions : (d : Command) → is_submission (outline d) ≡ true → is_of_sessions d ≡ false
not_of_sessions (commands.Submit t c answers) e = refl
not_of_sessions d e = absurd (grind (arith, e))
