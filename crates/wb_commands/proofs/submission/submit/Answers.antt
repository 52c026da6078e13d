use Rattle.std.proofs.Common.{◌∙◌}
use Rattle.std.proofs.lemmas.Result.{IfOk-weaker}
use Rattle.wb_model.specs.Requests.{submission_fault}
use Rattle.wb_tables.specs.TurnContexts.{at_of}
use Rattle.wb_tables.specs.Kept.{plain_of, live_plain}
use Rattle.wb_commands.proofs.Plans.{refused_plan}
use Rattle.wb_commands.proofs.Submissions.{newest_good, faulted}
use Rattle.wb_commands.proofs.submission.submit.Goals as goal

pub check-requires : goal.check-requires
check-requires c = newest_good c.in-Some.asking.context.now.form c.in-Some.asking.item.now c.args.tenancy.now.configuration.registry.forms c.in-Some.ensures.form c.requires.place.registry.forms

pub returns-in-Ok-clause-plan : goal.returns-in-Ok-clause-plan
returns-in-Ok-clause-plan c =
    IfOk-weaker c.plan_draw.result _ _ (λ plan h. h c.args.id c.args.answers.now c.in-Some.ensures (record { valid = c.in-Ok.ensures.valid; public = c.in-Ok.ensures.public; sealed = c.in-Ok.ensures.sealed; mark = c.in-Ok.ensures.mark })) c.plan_draw.ensures.plan

pub returns-in_ok-faulty-in-Err-clause-plan : goal.returns-in_ok-faulty-in-Err-clause-plan
unfolding submission_fault
returns-in_ok-faulty-in-Err-clause-plan c =
    let p = live_plain c.args.at.now.time (plain_of c.args.tenancy.now) in
    λ who sealed. refused_plan c.args.tenancy.now.configuration.tenant p.registry sealed _ _ _ c.answering.result
    (faulted p (at_of c.args.at.now) who c.args.id c.args.answers.now c.in-Some.asking.context.now c.in-Some.asking.item.now c.in-Err.fault c.in-Some.ensures (c.in-Err.ensures.fault c.in_ok-faulty-in-Err.ensures.code)) (c.answering.ensures.told ∙ c.in_ok-faulty-in-Err.ensures.told) c.answering.ensures.change
