use Rattle.wb_notice.proofs.Completing.{completed}
use Rattle.wb_notice.proofs.notifying.notify.Goals as goal

pub returns-in-Some-clause-complete : goal.returns-in-Some-clause-complete
returns-in-Some-clause-complete g c moment h asks free =
    completed (g.K.Keeper.end c.args.keeper.now) (g.K.Keeper.end c.notify_at.new.keeper) (g.B.Keeper.end c.args.outbox.now) (g.B.Keeper.end c.notify_at.new.outbox) (g.W.Sink.end c.args.sink.now) (g.W.Sink.end c.notify_at.new.sink) c.in-Some.moment
    h free c.notify_at.result c.notify_at.ensures.did
