use Rattle.std.proofs.Common.{◌≡◌, ◌+◌, true, ap, ◌∙◌, sym, subst, cond, nat_lt, arith}
use Rattle.wb_model.specs.Commands.{fits_command}
use Rattle.wb_model.specs.Requests.{Frame}
use Rattle.wb_model.specs.Rows.{rows_of}
use Rattle.wb_tables.specs.Standing.{hosts_of}
use Rattle.wb_desk.proofs.Steps.{Ensured, Withheld, booked_after, turned_by}
use Rattle.wb_desk.proofs.kept.Kept.turn.Given as given
use Rattle.wb_desk.proofs.kept.Kept.turn.Goals as goal
use Rattle.wb_desk.proofs.kept.Kept.turn.Goals.{After-step-told}

-- what the step of the desk ensures
stepped : (g : given.Over) (c : After-step-told g) → Ensured (g.K.Keeper.end c.self.inside.keeper) (g.K.Keeper.end c.step-told.new.keeper) c.self.inside.desk c.step-told.new.self
    (record { moment = c.args.moment; words = c.args.words.now; asked = c.args.asked.now }) c.step-told.result
stepped g c = record {
  spent = λ full.
      let left = c.step-told.ensures.spent full in
      (left.0, left.1, ap (λ x. (g.K.Keeper.end x).count) left.2, λ is holds. subst (λ k. (g.K.Keeper.end k).holds (rows_of (hosts_of c.self.inside.desk).list)) (sym left.2) holds);
  turn = c.step-told.ensures.turn;
  back = c.step-told.ensures.back;
  later = c.step-told.ensures.later;
}

pub invariant_of-self : goal.invariant_of-self
invariant_of-self g c =
    let f : Frame = record { moment = c.args.moment; words = c.args.words.now; asked = c.args.asked.now } in
    let step = stepped g (goal.at.invariant_of-self g c).After-step-told in
    let fit : fits_command c.args.asked.now.command ≡ true = grind (arith, c.requires.fits) in (
      c.add.ensures.total ∙ ap (λ n. n + c.one_if-made.result) (c.audit.ensures.total ∙ c.self.invariant.0),
      c.add-2.ensures.total ∙ ap (λ n. n + c.one_if-drawn.result) (c.audit-2.ensures.total ∙ c.self.invariant.1),
      c.self.invariant.2,
      c.self.invariant.3,
      c.self.invariant.4,
      c.self.invariant.5,
      booked_after c.an_accepted_submission_draws_a_number.ensures c.a_turn_is_not_answered_as_spent.ensures.others c.a_turn_is_not_answered_as_spent.ensures.told
          (g.K.Keeper.end c.self.inside.keeper) (g.K.Keeper.end c.step-told.new.keeper)
          c.self.inside.desk c.step-told.new.self f c.step-told.result fit c.stands.ensures step g.A.Origin.desk c.self.inside.turns c.self.inside.numbers c.one_if-made.result c.one_if-drawn.result c.self.invariant.6
          (c.one_if-made.ensures ∙ ap (λ n. cond (nat_lt (n + c.self.inside.turns) 1_000_000_000_000_000) 1 0) c.self.invariant.7) (c.one_if-drawn.ensures ∙ ap (λ b. cond b 1 0) c.is_accepted.ensures),
      c.self.invariant.7,
      (λ is. c.self.invariant.8 (c.step-told.ensures.back is)),
    )

pub returns : goal.returns
returns g c =
    let f : Frame = record { moment = c.args.moment; words = c.args.words.now; asked = c.args.asked.now } in
    let step = stepped g (goal.at.returns g c).After-step-told in
    let withheld : Withheld c.self.inside.desk c.step-told.new.self f c.step-told.result = record {
      sealed = λ below is t r. record {
        reply = c.step-told.ensures.alike_reply below is t r;
        hosts = c.step-told.ensures.alike_hosts below is t r;
        first = c.step-told.ensures.alike_first below is t r;
      };
      absent = c.step-told.ensures.absence;
    } in
    let fit : fits_command c.args.asked.now.command ≡ true = grind (arith, c.requires.fits) in record {
      turned =
          turned_by c.an_accepted_submission_draws_a_number.ensures c.a_turn_is_not_answered_as_spent.ensures.others c.a_turn_is_not_answered_as_spent.ensures.told
          (g.K.Keeper.end c.self.inside.keeper) (g.K.Keeper.end c.step-told.new.keeper)
          c.self.inside.desk c.step-told.new.self f c.step-told.result fit c.stands.ensures step withheld c.args.self.now c.args.pass.now g.A.Origin.desk c.self.inside.turns c.self.inside.numbers c.one_if-made.result c.one_if-drawn.result c.pass.inside.parts c.pass.inside.turns c.pass.inside.numbers
          c.self.view_is c.pass.view_is c.self.invariant.6.turns_add_up c.self.invariant.6.later (c.one_if-made.ensures ∙ ap (λ n. cond (nat_lt (n + c.self.inside.turns) 1_000_000_000_000_000) 1 0) c.self.invariant.7) (c.one_if-drawn.ensures ∙ ap (λ b. cond b 1 0) c.is_accepted.ensures) (omega (arith, c.audit.ensures.bound, c.self.invariant.0, c.pass.invariant.3)) (omega (arith, c.audit-2.ensures.bound, c.self.invariant.1, c.pass.invariant.4));
    }
