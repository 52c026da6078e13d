use Rattle.std.proofs.Common.{inl, Some, None, refl, subst}
use Rattle.wb_model.specs.Requests.{Frame}
use Rattle.wb_wire.specs.Responses.{reply_of}
use Rattle.wb_front.proofs.Replying.{fatal_of}
use Rattle.wb_front.proofs.answers.reply_to.Goals as goal

pub returns-in-Ok-tick-clause-answered : goal.returns-in-Ok-tick-clause-answered
returns-in-Ok-tick-clause-answered g c = (
  Some c.in-Ok-tick.tick,
  record {
    replied = (c.in-Ok.asked, c.in-Ok.ensures.ok, subst (λ (f : Frame). g.G.Gate.ran c.args.own.now f c.enter.result c.enter.new.own) c.new.ensures c.enter.ensures.ran, refl, refl);
    turns = λ xs is. let t = c.in-Ok-tick.ensures.next xs is in (t.0, t.2, t.1);
    fatal = inl (λ e. absurd cc);
  },
)

pub returns-in-Err-clause-answered : goal.returns-in-Err-clause-answered
returns-in-Err-clause-answered g c = (
  None,
  record {
    replied = (refl, c.in-Err.no.fault, c.in-Err.no.close, (c.in-Err.ensures.refused, λ e. (c.in-Err.ensures.memory e, c.in-Err.ensures.health e)), c.refused.ensures.reply);
    turns = λ xs is. (xs, is, refl);
    fatal = fatal_of c.refused.result.fatal c.in-Err.no.fault c.in-Err.no.close (reply_of c.refused.result.response) c.refused.ensures.fatal c.refused.ensures.reply;
  },
)
