-- The verdict on a submission, case by case, and the plans of verdicts.
use Rattle.std.proofs.Common.{◌≡◌, ℕ, ◌+◌, ◌<◌, ◌≤◌, Bool, true, false, cond, eqb, List, [], ◌∷◌, Option, Some, None, refl, sym, ap, ◌∙◌, subst, arith}
use Rattle.std.specs.Prelude.{nat_le, fold, ◌==◌, if◌then◌else◌}
use Rattle.std.specs.Option.{option_or}
use Rattle.std.proofs.lemmas.Bool.Decides.{nat_tests}
use Rattle.wb_base.specs.AnswerList.{Answered}
use Rattle.wb_base.specs.FormFaults.{is_good}
use Rattle.wb_base.specs.Secrets.{receipt_text}
use Rattle.wb_base.specs.declared.faults.AnswerFault.{AnswerFault}
use Rattle.wb_model.specs.declared.body.Told.{Told}
use Rattle.wb_model.specs.declared.registry.ContextItem.{ContextItem}
use Rattle.wb_model.specs.declared.registry.FormItem.{FormItem}
use Rattle.wb_model.specs.Access.{requests}
use Rattle.wb_model.specs.Changes.{TurnContext, Verdict, Refused, Accepted, Begins, Says, Change, judged}
use Rattle.wb_model.specs.Effects.{Misses, Submits, with_form}
use Rattle.wb_model.specs.Host.{Sealed}
use Rattle.wb_model.specs.Json.{told}
use Rattle.wb_model.specs.Legal.{AreSound}
use Rattle.wb_model.specs.Refusals.{not_found, numbers_spent, quota_spent, receipt_taken, faulty}
use Rattle.wb_model.specs.Refusing.{refuses_where}
use Rattle.wb_model.specs.Requests.{Outcome, Checked, submission_outcome, submission_secret, submission_fault, public, secret, mark}
use Rattle.wb_model.specs.AskingForms.{asking_form, open_form}
use Rattle.wb_model.specs.ShortViews.{submission_view}
use Rattle.wb_model.specs.Submissions.{Drawing, drawing, submission_entry}
use Rattle.wb_model.specs.Tables.{Registry, Plain, Who, context, newest_form}
use Rattle.wb_tables.specs.Places.{AreGoodForms}
use Rattle.wb_tables.specs.Receipted.{is_submitted}
use Rattle.wb_commands.specs.Plans.{submission_verdict, drawing_refusal, PlansSubmission, IsPlan, IsBegun, GivesSecret, begins, change_of, IsAsking}
use Rattle.wb_commands.specs.declared.mutation.Mutation.{Mutation}
use Rattle.wb_model.specs.declared.entry.Entry.{Entry}
use Rattle.wb_commands.specs.declared.plan.TurnPlan.{TurnPlan}
use Rattle.wb_commands.specs.declared.mutation.Mutation.TheVariants as planned

-- ---- plans of verdicts

pub made_plan : (id : ℕ) (g : Registry) (sealed : Sealed) (v : Verdict) (s : Option Answered) (change : Change) (t : Told) (plan : TurnPlan) → v ≡ Accepted change (Says t) → plan.told ≡ t → change ≡ change_of id g plan.change → GivesSecret plan.change s → IsPlan id g sealed v s plan
made_plan id g sealed v s change t plan e told same has = subst (λ w. IsPlan id g sealed w s plan) (sym e) (record {
  reply = sym told;
  change = same;
  given = has;
})

-- ---- the form in which an open context asks

asks_form : (g : Registry) (id : ℕ) (c : ContextItem) (item : FormItem) → IsAsking g id c item → asking_form (context id g.contexts) g.forms ≡ Some item
asks_form g id c item a = ap (λ o. asking_form o g.forms) a.context ∙ a.form

opens_form : (g : Registry) (id : ℕ) (c : ContextItem) (item : FormItem) → IsAsking g id c item → open_form (context id g.contexts) g.forms ≡ Some item
opens_form g id c item a = ap (λ o. open_form o g.forms) a.context ∙ (ap (λ b. if b then newest_form c.form g.forms else None) a.opens ∙ a.form)

-- ---- the cases of a submission

abbrev form_at : Plain → ℕ → Option FormItem
form_at p id = asking_form (context id p.registry.contexts) p.registry.forms

abbrev verdict_at : Plain → TurnContext → Option Who → ℕ → Answered → Verdict
verdict_at p at who id answers = submission_verdict p at who id (submission_outcome (form_at p id) answers)

-- where there is no form, nothing is done
misses : (c : Option ContextItem) → with_form Submits c None ≡ Misses
misses None = refl
misses (Some c) = refl

pub no_form : (p : Plain) (at : TurnContext) (who : Option Who) (id : ℕ) (answers : Answered) → open_form (context id p.registry.contexts) p.registry.forms ≡ None → verdict_at p at who id answers ≡ Refused not_found
no_form p at who id answers e = rw (e, misses (context id p.registry.contexts)) refl

pub faulted : (p : Plain) (at : TurnContext) (who : Option Who) (id : ℕ) (answers : Answered) (c : ContextItem) (item : FormItem) (fault : AnswerFault) → IsAsking p.registry id c item → submission_fault item.form answers ≡ Some fault → verdict_at p at who id answers ≡ Refused (faulty fault)
faulted p at who id answers c item fault a g = rw (opens_form p.registry id c item a, asks_form p.registry id c item a, a.context, g) refl

-- the change and the answer of a report that begins
abbrev opening : Plain → TurnContext → Answered → ContextItem → FormItem → Change
opening p at answers c item = Begins (submission_entry at p.registry (Checked None (public item.form answers) (mark item.form answers)) c item)

abbrev says : Plain → TurnContext → Told
says p at = told 201 (submission_view (p.numbering.last + 1) (receipt_text at.words))

-- where the answers are right, what is left is what stands in the way of a draw
passed : (p : Plain) (at : TurnContext) (who : Option Who) (id : ℕ) (answers : Answered) (c : ContextItem) (item : FormItem) → IsAsking p.registry id c item → submission_fault item.form answers ≡ None
    → verdict_at p at who id answers ≡ judged (drawing_refusal p.registry.settings.quota (drawing at p)) (opening p at answers c item) (Says (says p at))
passed p at who id answers c item a g = rw (opens_form p.registry id c item a, asks_form p.registry id c item a, a.context, g) refl

pub hindered : (p : Plain) (at : TurnContext) (who : Option Who) (id : ℕ) (answers : Answered) (c : ContextItem) (item : FormItem) (r : Told) → IsAsking p.registry id c item → submission_fault item.form answers ≡ None
    → drawing_refusal p.registry.settings.quota (drawing at p) ≡ Some r → verdict_at p at who id answers ≡ Refused r
hindered p at who id answers c item r a g h = passed p at who id answers c item a g ∙ ap (λ o. judged o (opening p at answers c item) (Says (says p at))) h

begun_verdict : (p : Plain) (at : TurnContext) (who : Option Who) (id : ℕ) (answers : Answered) (c : ContextItem) (item : FormItem) → IsAsking p.registry id c item → submission_fault item.form answers ≡ None
    → drawing_refusal p.registry.settings.quota (drawing at p) ≡ None → verdict_at p at who id answers ≡ Accepted (opening p at answers c item) (Says (says p at))
begun_verdict p at who id answers c item a g h = passed p at who id answers c item a g ∙ ap (λ o. judged o (opening p at answers c item) (Says (says p at))) h

-- where nothing stands in the way there is a number
pub number_left : (quota : ℕ) (n : Drawing) → drawing_refusal quota n ≡ None → n.last < 4_294_967_295
number_left quota n e = by (nat_le 4_294_967_295 n.last) refl e
  where
    by : (b : Bool) → nat_le 4_294_967_295 n.last ≡ b → option_or (refuses_where b numbers_spent) (option_or (refuses_where (nat_le quota n.today) (quota_spent quota)) (refuses_where n.taken receipt_taken)) ≡ None → n.last < 4_294_967_295
    by true is f = absurd cc
    by false is f = grind (arith, nat_tests, is)

begins_it : (id : ℕ) (g : Registry) (c : Mutation) (e : Entry) (given : Option Answered) → IsBegun c e given → change_of id g c ≡ Begins e
begins_it id g (planned.Begins o) e given is = ap begins is.0
begins_it id g _ e given is = absurd is

gives_it : (c : Mutation) (e : Entry) (given secret : Option Answered) → IsBegun c e given → given ≡ secret → GivesSecret c secret
gives_it (planned.Begins o) e given secret is same = is.1 ∙ same
gives_it _ e given secret is same = absurd is

pub asks_none : (at : TurnContext) (g : Registry) (o : Outcome) (c : ContextItem) (item : FormItem) → requests (submission_entry at g o c item ∷ []) ≡ []
unfolding submission_entry
asks_none at g o c item = refl

pub submits : (at : TurnContext) (g : Registry) (o : Outcome) (c : ContextItem) (item : FormItem) → is_submitted (submission_entry at g o c item ∷ []) ≡ true
unfolding submission_entry
submits at g o c item = refl

pub begun : (t : ℕ) (p : Plain) (at : TurnContext) (id : ℕ) (answers : Answered) (c : ContextItem) (item : FormItem) (given sealed : Answered) (m : Bool)
    → IsAsking p.registry id c item → submission_fault item.form answers ≡ None → drawing_refusal p.registry.settings.quota (drawing at p) ≡ None
    → given ≡ public item.form answers → sealed ≡ secret item.form answers → m ≡ mark item.form answers
    → (plan : TurnPlan) → plan.told ≡ says p at
    → IsBegun plan.change (submission_entry at p.registry (Checked None given m) c item) (if m then Some sealed else None)
    → PlansSubmission t p at id answers plan
begun t p at id answers c item given sealed m a valid free g s k plan tells o = λ who held.
    made_plan t p.registry held (verdict_at p at who id answers) (submission_secret (form_at p id) answers) _ _ plan (begun_verdict p at who id answers c item a valid free) tells
    (ap (λ (a : Answered). Begins (submission_entry at p.registry (Checked None a (mark item.form answers)) c item)) (sym g)
    ∙ (ap (λ (b : Bool). Begins (submission_entry at p.registry (Checked None given b) c item)) (sym k) ∙ sym (begins_it t p.registry plan.change _ _ o)))
    (gives_it plan.change _ _ _ o
    (ap (λ (b : Bool). if b then Some sealed else None) k
    ∙ (ap (λ (z : Answered). if mark item.form answers then Some z else None) s
    ∙ sym (ap (λ f. submission_secret f answers) (asks_form p.registry id c item a)))))

-- ---- what a tenant is set up with

some_same : {X : Type 0} (a b : X) → Some a ≡ Some b → a ≡ b
some_same a b e = cc e

-- the retention of a context that is found
pub sound_context : (id : ℕ) (c : ContextItem) (cs : List ContextItem) → context id cs ≡ Some c → AreSound cs → (1 ≤ c.retention) × (c.retention ≤ 3_650)
sound_context id c [] e all = absurd cc
sound_context id c (x ∷ xs) e all = by (λ f. sound_context id c xs f all.1) (eqb x.id id) e
  where
    by : (context id xs ≡ Some c → (1 ≤ c.retention) × (c.retention ≤ 3_650)) → (b : Bool) → cond b (Some x) (context id xs) ≡ Some c → (1 ≤ c.retention) × (c.retention ≤ 3_650)
    by later true f = subst (λ (y : ContextItem). (1 ≤ y.retention) × (y.retention ≤ 3_650)) (some_same x c f) (all.0.0, all.0.1)
    by later false f = later f

-- the newest version of a form is good where all are
later_good : (f : ℕ) (item : FormItem) (before : Option FormItem) (xs : List FormItem) → (before ≡ Some item → is_good item.form ≡ true) → AreGoodForms xs → fold (λ b (x : FormItem). if x.id == f then Some x else b) before xs ≡ Some item → is_good item.form ≡ true
later_good f item before [] here all e = here e
later_good f item before (x ∷ xs) here all e = later_good f item (if x.id == f then Some x else before) xs (by (eqb x.id f)) all.1 e
  where
    by : (b : Bool) → cond b (Some x) before ≡ Some item → is_good item.form ≡ true
    by true k = subst (λ (y : FormItem). is_good y.form ≡ true) (some_same x item k) all.0
    by false k = here k

pub newest_good : (f : ℕ) (item : FormItem) (forms : List FormItem) → newest_form f forms ≡ Some item → AreGoodForms forms → is_good item.form ≡ true
newest_good f item forms e all = later_good f item None forms (λ k. absurd cc) all e
