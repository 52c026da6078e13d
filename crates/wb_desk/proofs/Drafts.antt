-- Steps by what a request does: what is refused, shown, written and set; and the plans of what is written and set.
use Rattle.std.proofs.Common.{◌≡◌, inl, inr, ℕ, true, List, [], Option, Some, None, refl, sym, ap, ◌∙◌, subst, arith}
use Rattle.std.specs.Prelude.{option_map, nat_le}
use Rattle.std.specs.Option.{option_or, option_map_or}
use Rattle.std.proofs.lemmas.Bool.Decides.{nat_tests}
use Rattle.wb_model.specs.declared.body.Told.{Told}
use Rattle.wb_model.specs.declared.command.Asked.{Asked}
use Rattle.wb_model.specs.declared.entry.Entry.{Entry}
use Rattle.wb_model.specs.Access.{user_by}
use Rattle.wb_model.specs.Changes.{TurnContext, Verdict, Refused, Accepted, Nothing, Notes, Configures, Answer, Says, judged}
use Rattle.wb_model.specs.Doings.{Doing, Acts, Moves, doing_fault, doing_entry, doing_told, actor_of}
use Rattle.wb_model.specs.Effects.{Effect, Misses, Looks, Writes}
use Rattle.wb_model.specs.Commands.{effect_of}
use Rattle.wb_model.specs.Faults.{case_told, admin_told}
use Rattle.wb_model.specs.Host.{Tables, said, reply_by, change_of as verdict_change}
use Rattle.wb_model.specs.OnReports.{refusal_on, change_on, answer_on}
use Rattle.wb_model.specs.Refusals.{not_found}
use Rattle.wb_model.specs.Requests.{Outcome, Unchecked, outline, outcome, request, sealed_part, secret_of}
use Rattle.wb_model.specs.Rules.{refusal_alone, change_alone, answer_alone, verdict_on}
use Rattle.wb_model.specs.Settings as settings
use Rattle.wb_model.specs.Settings.{proposal_refusal}
use Rattle.wb_model.specs.Submissions.{drawing, outcome_refusal}
use Rattle.wb_model.specs.Tables.{Registry, Plain, Case, Who, report}
use Rattle.wb_model.specs.Targets.{Target, Alone, On, trail_at}
use Rattle.wb_tables.specs.declared.proposal.Proposal.{Proposal as KeptProposal}
use Rattle.wb_tables.specs.declared.proposal.Proposal.TheVariants as proposals
use Rattle.wb_tables.specs.declared.tenancy.Report.{Report}
use Rattle.wb_tables.specs.declared.tenancy.Who.{Who as KeptWho}
use Rattle.wb_tables.specs.Configured.{IsSoundProposal, fault_of, proposal_of, setting_of}
use Rattle.wb_tables.specs.Lives.{case_of}
use Rattle.wb_tables.specs.Logins.{who_seen}
use Rattle.wb_commands.specs.declared.plan.TurnPlan.{TurnPlan}
use Rattle.wb_commands.specs.declared.mutation.Mutation.{Mutation}
use Rattle.wb_commands.specs.declared.mutation.Mutation.TheVariants as planned
use Rattle.wb_commands.specs.declared.draft.Asks.{Asks}
use Rattle.wb_commands.specs.declared.draft.Asks.TheVariants as asks
use Rattle.wb_commands.specs.declared.draft.Setting.{Setting}
use Rattle.wb_commands.specs.declared.draft.Draft.{Draft}
use Rattle.wb_commands.specs.declared.draft.Draft.TheVariants as steps
use Rattle.wb_commands.specs.declared.draft.Writing.{Writing}
use Rattle.wb_commands.specs.Plans.{GivesSecret, PlansOn, change_of}
use Rattle.wb_commands.proofs.Plans.{answered_plan, refused_plan}
use Rattle.wb_queries.specs.Looks.{IsLook, seen}
use Rattle.wb_commands.specs.Steps.{Alike, Answers, Bars, DoesLike, IsAskedOnReport, IsNote, IsPutIn, IsSetting, IsSoundDoing, IsSoundAsk, IsDraftOf, IsTold, IsWriting, SetsIn, WritesDown, WritesIn, barred, doing_of, most_of}

-- the verdict on a request's target
abbrev pub verdict_at : Plain → TurnContext → Asked → Target → Verdict
verdict_at p at a to = verdict_on p at (request p.registry (trail_at to) a) to

pub refused_step : (id : ℕ) (t : Tables) (at : TurnContext) (a : Asked) (to : Target) (r : Told) (step : Draft) → verdict_at t.plain at a to ≡ Refused r → IsTold r step → IsDraftOf id t at a to step
refused_step id t at a to r (steps.Done plan) e is = refused_plan id t.plain.registry t.sealed (verdict_at t.plain at a to) (sealed_part t.plain a) r plan e is.0 is.1
refused_step id t at a to r (steps.Writes w) e is = absurd is
refused_step id t at a to r (steps.Sets s) e is = absurd is

pub answered_step : (id : ℕ) (t : Tables) (at : TurnContext) (a : Asked) (to : Target) (answer : Answer) (r : Told) (step : Draft) → verdict_at t.plain at a to ≡ Accepted Nothing answer → said answer t.sealed ≡ r → IsTold r step → IsDraftOf id t at a to step
answered_step id t at a to answer r (steps.Done plan) e told is = answered_plan id t.plain.registry t.sealed (verdict_at t.plain at a to) (sealed_part t.plain a) answer plan e (told ∙ sym is.0) is.1
answered_step id t at a to answer r (steps.Writes w) e told is = absurd is
answered_step id t at a to answer r (steps.Sets s) e told is = absurd is

-- ---- looks

pub looks_step : (id : ℕ) (t : Tables) (at : TurnContext) (a : Asked) (who : Option Who) (r : Told) (step : Draft) (e : Effect) → effect_of at t.plain.registry who a.session [] (outline a.command) ≡ e → IsLook e → r ≡ seen at t.plain who e → IsTold r step → IsDraftOf id t at a (Alone who) step
looks_step id t at a who r step (Looks view) is look told done =
    answered_step id t at a (Alone who) (answer_alone at t.plain who (Looks view)) r step (ap (λ x. judged (refusal_alone t.plain.registry (drawing at t.plain) (outcome t.plain.registry [] a.command) x) (change_alone at t.plain.registry who (outcome t.plain.registry [] a.command) x) (answer_alone at t.plain who x)) is) (sym told) done
looks_step id t at a who r step Misses is look told done =
    refused_step id t at a (Alone who) r step (ap (λ x. judged (refusal_alone t.plain.registry (drawing at t.plain) (outcome t.plain.registry [] a.command) x) (change_alone at t.plain.registry who (outcome t.plain.registry [] a.command) x) (answer_alone at t.plain who x)) is ∙ ap Refused (sym told)) done
looks_step id t at a who r step _ is look told done = absurd look

-- ---- what is done on a report

-- the verdict on a request on a report, by what it does
abbrev pub verdict_by : Plain → TurnContext → Who → Case → Outcome → Effect → Verdict
verdict_by p at who case o e = judged (refusal_on at p.registry who case o e) (change_on at p.registry who case.number case.trail e) (answer_on at p.registry who case e)

-- a command that gives no answers
pub record IsUnanswered (g : Registry) (trail : List Entry) (a : Asked) : Type 0 where
  pub outline_is : outline a.command ≡ a.command
  pub outcome_is : outcome g trail a.command ≡ Unchecked
  pub secret_is : secret_of g a.command ≡ None

pub alike_self : (trail : List Entry) (d : Doing) → Alike trail d d
alike_self trail d = record { fault = λ user. refl; deed = λ calendar time. refl; told = refl }

-- what is asked of a report, and answered, is a step
pub asked_step : (id : ℕ) (t : Tables) (at : TurnContext) (a : Asked) (who : KeptWho) (r : Report) (asks : Asks) (step : Draft) → IsUnanswered t.plain.registry r.case.items a → report r.number t.plain.cases ≡ Some (case_of r)
    → IsAskedOnReport at t.plain.registry (Some (who_seen who)) a.session r.case.items a.command asks → IsSoundAsk (actor_of (who_seen who)) asks → Answers who r asks step → IsDraftOf id t at a (On (who_seen who) (case_of r)) step
asked_step id t at a who r asks.Misses step u there asked sound told =
    refused_step id t at a (On (who_seen who) (case_of r)) not_found step
    (ap (λ c. verdict_by t.plain at (who_seen who) (case_of r) (outcome t.plain.registry r.case.items a.command) (effect_of at t.plain.registry (Some (who_seen who)) a.session r.case.items c)) u.outline_is
    ∙ ap (verdict_by t.plain at (who_seen who) (case_of r) (outcome t.plain.registry r.case.items a.command)) asked) told
asked_step id t at a who r (asks.Bars fault) step u there asked sound told =
    refused_step id t at a (On (who_seen who) (case_of r)) (case_told fault) step
    (ap (λ c. verdict_by t.plain at (who_seen who) (case_of r) (outcome t.plain.registry r.case.items a.command) (effect_of at t.plain.registry (Some (who_seen who)) a.session r.case.items c)) u.outline_is
    ∙ (ap (λ o. verdict_by t.plain at (who_seen who) (case_of r) o (effect_of at t.plain.registry (Some (who_seen who)) a.session r.case.items a.command)) u.outcome_is
    ∙ bars (effect_of at t.plain.registry (Some (who_seen who)) a.session r.case.items a.command) asked)) told
  where
    bars : (e : Effect) → Bars r.case.items fault e → verdict_by t.plain at (who_seen who) (case_of r) Unchecked e ≡ Refused (case_told fault)
    bars (Writes (Acts act)) is = rw is refl
    bars (Writes (Moves move)) is = absurd is
    bars _ is = absurd is
asked_step id t at a who r (asks.Does doing) step u there asked sound told = by step told (effect_of at t.plain.registry (Some (who_seen who)) a.session r.case.items a.command) refl asked
  where
    by : (s : Draft) → WritesDown who r doing None (doing_told r.case.items (doing_of doing)) s → (e : Effect) → effect_of at t.plain.registry (Some (who_seen who)) a.session r.case.items a.command ≡ e → DoesLike r.case.items e (doing_of doing) → IsDraftOf id t at a (On (who_seen who) (case_of r)) s
    by (steps.Done plan) w e is like = absurd w
    by (steps.Sets x) w e is like = absurd w
    by (steps.Writes w) is-written (Writes d) is like = record {
      case = case_of r;
      on = ap (λ x. On (who_seen x) (case_of r)) (sym is-written.who_is);
      number = sym is-written.number_is;
      there = ap (λ n. report n t.plain.cases) is-written.number_is ∙ there;
      does = d;
      effect = ap (λ x. effect_of at t.plain.registry (Some (who_seen x)) a.session r.case.items (outline a.command)) is-written.who_is ∙ (ap (effect_of at t.plain.registry (Some (who_seen who)) a.session r.case.items) u.outline_is ∙ is);
      alike = subst (λ x. Alike r.case.items d (doing_of x)) (sym is-written.doing_is) like;
      checked = ap outcome_refusal u.outcome_is;
      given = is-written.given_is ∙ sym u.secret_is;
      told = is-written.told_is ∙ sym like.told;
      sound = subst (λ x. IsSoundDoing (actor_of (who_seen x)) w.doing) (sym is-written.who_is) (subst (IsSoundDoing (actor_of (who_seen who))) (sym is-written.doing_is) sound);
    }
    by (steps.Writes w) is-written _ is like = absurd like

-- ---- plans of what is written

-- the verdict on what is written
written_verdict : (p : Plain) (at : TurnContext) (a : Asked) (to : Target) (w : Writing) (h : IsWriting p at a to w) → verdict_at p at a to ≡ judged (barred h.case.trail w) (Notes w.number (doing_entry p.registry.settings.calendar at.time (who_seen w.who) h.case.trail (doing_of w.doing))) (Says w.told)
written_verdict p at a to w h =
    ap (verdict_at p at a) h.on
    ∙ (ap (verdict_by p at (who_seen w.who) h.case (outcome p.registry h.case.trail a.command)) h.effect
    ∙ (ap (λ o. judged (option_or o (doing_fault h.case.trail (user_by (actor_of (who_seen w.who))) h.does)) (Notes h.case.number (doing_entry p.registry.settings.calendar at.time (who_seen w.who) h.case.trail h.does)) (Says (doing_told h.case.trail h.does))) h.checked
    ∙ (λ i. judged (h.alike.fault (user_by (actor_of (who_seen w.who))) i) (Notes (h.number i) (record { at = at.time; by = actor_of (who_seen w.who); deed = h.alike.deed p.registry.settings.calendar at.time i })) (Says (sym h.told i)))))

pub written_plan : (id : ℕ) (t : Tables) (at : TurnContext) (a : Asked) (to : Target) (w : Writing) (plan : TurnPlan) (h : IsWriting t.plain at a to w) → WritesIn t.plain.registry.settings.calendar h.case.trail at.time w plan → PlansOn id t at a to plan
written_plan id t at a to w plan h (inl is) = record {
  reply = ap (λ v. reply_by v t.sealed) verdict ∙ sym is.1;
  change = ap verdict_change verdict ∙ sym (noted plan.change is.2);
  given = gives plan.change is.2;
}
  where
    verdict : verdict_at t.plain at a to ≡ Accepted (Notes w.number (doing_entry t.plain.registry.settings.calendar at.time (who_seen w.who) h.case.trail (doing_of w.doing))) (Says w.told)
    verdict = written_verdict t.plain at a to w h ∙ ap (λ o. judged o (Notes w.number (doing_entry t.plain.registry.settings.calendar at.time (who_seen w.who) h.case.trail (doing_of w.doing))) (Says w.told)) is.0

    noted : (c : Mutation) → IsNote c w.number (doing_entry t.plain.registry.settings.calendar at.time (who_seen w.who) h.case.trail (doing_of w.doing)) w.given → change_of id t.plain.registry c ≡ Notes w.number (doing_entry t.plain.registry.settings.calendar at.time (who_seen w.who) h.case.trail (doing_of w.doing))
    noted (planned.Notes n) e = λ i. Notes (e.0 i) (e.1 i)
    noted _ e = absurd e

    gives : (c : Mutation) → IsNote c w.number (doing_entry t.plain.registry.settings.calendar at.time (who_seen w.who) h.case.trail (doing_of w.doing)) w.given → GivesSecret c (sealed_part t.plain a)
    gives (planned.Notes n) e = e.2 ∙ h.given
    gives _ e = absurd e
written_plan id t at a to w plan h (inr is) =
    refused_plan id t.plain.registry t.sealed (verdict_at t.plain at a to) (sealed_part t.plain a) plan.told plan
    (written_verdict t.plain at a to w h ∙ ap (λ o. judged o (Notes w.number (doing_entry t.plain.registry.settings.calendar at.time (who_seen w.who) h.case.trail (doing_of w.doing))) (Says w.told)) is.1) refl is.0

-- ---- plans of what is set

-- what refuses it, and what it puts in
proposed : (g : Registry) (next : KeptProposal) → proposal_refusal g (proposal_of next) ≡ option_map (admin_told (most_of next)) (fault_of g next)
proposed g (proposals.ToTenant next) = refl
proposed g (proposals.ToUser u next) = refl
proposed g (proposals.ToContext c next) = refl
proposed g (proposals.ToForm f form) = refl

puts_in : (t : ℕ) (g : Registry) (next : KeptProposal) → IsSoundProposal next → option_map_or Configures (settings.setting_of t g (proposal_of next)) Nothing ≡ Configures (setting_of t g next)
puts_in t g (proposals.ToTenant next) sound = refl
puts_in t g (proposals.ToUser u next) sound = refl
puts_in t g (proposals.ToContext c next) sound = (let le : nat_le 1 next.retention ≡ true = grind (arith, nat_tests, sound.1) in rw le refl)
puts_in t g (proposals.ToForm f form) sound = refl

set_verdict : (id : ℕ) (p : Plain) (at : TurnContext) (a : Asked) (to : Target) (s : Setting) → IsSetting id p at a to s → verdict_at p at a to ≡ judged (option_map (admin_told (most_of s.proposal)) (fault_of p.registry s.proposal)) (Configures (setting_of id p.registry s.proposal)) (Says s.told)
set_verdict id p at a to s h =
    ap (verdict_at p at a) h.alone
    ∙ (ap (λ e. judged (refusal_alone p.registry (drawing at p) (outcome p.registry [] a.command) e) (change_alone at p.registry h.who (outcome p.registry [] a.command) e) (answer_alone at p h.who e)) h.effect
    ∙ (λ i. judged (proposed p.registry s.proposal i) (puts_in id p.registry s.proposal h.sound i) (Says (sym h.told i))))

pub set_plan : (id : ℕ) (t : Tables) (at : TurnContext) (a : Asked) (to : Target) (s : Setting) (plan : TurnPlan) → IsSetting id t.plain at a to s → SetsIn id t.plain.registry s plan → PlansOn id t at a to plan
set_plan id t at a to s plan h (inl is) = record {
  reply = ap (λ v. reply_by v t.sealed) verdict ∙ sym is.1;
  change = ap verdict_change verdict ∙ sym (put plan.change is.2);
  given = gives plan.change is.2;
}
  where
    verdict : verdict_at t.plain at a to ≡ Accepted (Configures (setting_of id t.plain.registry s.proposal)) (Says s.told)
    verdict = set_verdict id t.plain at a to s h ∙ ap (λ o. judged (option_map (admin_told (most_of s.proposal)) o) (Configures (setting_of id t.plain.registry s.proposal)) (Says s.told)) is.0

    put : (c : Mutation) → IsPutIn id t.plain.registry s.proposal c → change_of id t.plain.registry c ≡ Configures (setting_of id t.plain.registry s.proposal)
    put (planned.Configures c) e = ap (λ x. Configures (setting_of id t.plain.registry x)) e.0
    put _ e = absurd e

    gives : (c : Mutation) → IsPutIn id t.plain.registry s.proposal c → GivesSecret c (sealed_part t.plain a)
    gives (planned.Configures c) e = tt
    gives _ e = absurd e
set_plan id t at a to s plan h (inr is) =
    refused_plan id t.plain.registry t.sealed (verdict_at t.plain at a to) (sealed_part t.plain a) plan.told plan
    (set_verdict id t.plain at a to s h ∙ ap (λ o. judged o (Configures (setting_of id t.plain.registry s.proposal)) (Says s.told)) is.1) refl is.0
