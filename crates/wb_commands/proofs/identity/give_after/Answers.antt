use Rattle.std.proofs.Common.{sym, ap, ◌∙◌, subst}
use Rattle.std.proofs.lemmas.Result.{IfOk-weaker}
use Rattle.wb_base.specs.AnswerFaults.{identity_fault}
use Rattle.wb_model.specs.Trails as trails
use Rattle.wb_commands.specs.Steps.{GivesBy}
use Rattle.wb_commands.proofs.identity.give_after.Goals as goal

pub returns-in-Ok : goal.returns-in-Ok
returns-in-Ok c = IfOk-weaker c.given.result _ _ (λ step h. subst (λ o. GivesBy o c.args.report.now c.args.answers.now step)
    (sym (ap (λ public. identity_fault c.args.form.now public c.args.answers.now) (sym (c.public_answers-public.ensures ∙ ap trails.answers (c.as_slice.ensures ∙ c.trail.ensures))) ∙ c.in-Ok.ensures.valid)) h) c.given.ensures
