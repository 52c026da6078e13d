-- The tables after a turn's change.
use Rattle.std.proofs.Common.{◌≡◌, ℕ, refl, sym, ap, ◌∙◌}
use Rattle.wb_model.specs.declared.command.Asked.{Asked}
use Rattle.wb_model.specs.Requests.{sealed_part}
use Rattle.wb_model.specs.Changes.{TurnContext, Change, Notes}
use Rattle.wb_model.specs.Host.{Tables, changed, tables_after}
use Rattle.wb_commands.specs.declared.plan.TurnPlan.{TurnPlan}
use Rattle.wb_commands.specs.declared.mutation.Mutation.{Mutation}
use Rattle.wb_commands.specs.declared.mutation.Mutation.TheVariants as planned
use Rattle.wb_commands.specs.Plans.{PlansTurn, GivesSecret, begins, change_of, given_of}

-- what is made of purged tables is what the plan says
pub planned_tables : (id : ℕ) (t u : Tables) (at : TurnContext) (a : Asked) (plan : TurnPlan) → PlansTurn id t at a plan → u ≡ changed at.time (change_of id t.plain.registry plan.change) (given_of plan.change) t → u ≡ tables_after t at a
planned_tables id t u at a plan h e = e ∙ (by plan.change h.given ∙ sym (ap (λ (c : Change). changed at.time c (sealed_part t.plain a) t) h.change))
  where
    by : (c : Mutation) → GivesSecret c (sealed_part t.plain a) → changed at.time (change_of id t.plain.registry c) (given_of c) t ≡ changed at.time (change_of id t.plain.registry c) (sealed_part t.plain a) t
    by (planned.Begins o) is = ap (λ s. changed at.time (begins o.case.items) s t) is
    by (planned.Notes n) is = ap (λ s. changed at.time (Notes n.number n.entry) s t) is
    by _ is = refl
