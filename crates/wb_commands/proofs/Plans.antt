-- Plans that only answer.
use Rattle.std.proofs.Common.{◌≡◌, ℕ, Option, sym, ap, subst}
use Rattle.wb_base.specs.AnswerList.{Answered}
use Rattle.wb_model.specs.declared.body.Told.{Told}
use Rattle.wb_model.specs.Changes.{Verdict, Refused, Accepted, Nothing, Answer}
use Rattle.wb_model.specs.Host.{Sealed, said}
use Rattle.wb_model.specs.Tables.{Registry}
use Rattle.wb_commands.specs.declared.plan.TurnPlan.{TurnPlan}
use Rattle.wb_commands.specs.declared.mutation.Mutation.TheVariants as planned
use Rattle.wb_commands.specs.Plans.{IsPlan, GivesSecret, change_of}

pub answered_plan : (id : ℕ) (g : Registry) (sealed : Sealed) (v : Verdict) (secret : Option Answered) (answer : Answer) (plan : TurnPlan) → v ≡ Accepted Nothing answer → said answer sealed ≡ plan.told → plan.change ≡ planned.Nothing → IsPlan id g sealed v secret plan
answered_plan id g sealed v secret answer plan e told none = subst (λ w. IsPlan id g sealed w secret plan) (sym e) (record {
  reply = told;
  change = sym (ap (change_of id g) none);
  given = subst (λ c. GivesSecret c secret) (sym none) tt;
})

pub refused_plan : (id : ℕ) (g : Registry) (sealed : Sealed) (v : Verdict) (secret : Option Answered) (r : Told) (plan : TurnPlan) → v ≡ Refused r → plan.told ≡ r → plan.change ≡ planned.Nothing → IsPlan id g sealed v secret plan
refused_plan id g sealed v secret r plan e told none = subst (λ w. IsPlan id g sealed w secret plan) (sym e) (record {
  reply = sym told;
  change = sym (ap (change_of id g) none);
  given = subst (λ c. GivesSecret c secret) (sym none) tt;
})
