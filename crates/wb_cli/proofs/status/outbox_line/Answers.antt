use Rattle.std.specs.Prelude.{codes}
use Rattle.wb_cli.specs.Statuses.{place_text}
use Rattle.wb_cli.proofs.SinkLemmas.{front_more, front_if_err, whole_if_ok}
use Rattle.wb_cli.proofs.status.outbox_line.Goals as goal

pub returns-in-Err-clause-err : goal.returns-in-Err-clause-err
returns-in-Err-clause-err g c = front_more (g.W.Sink.end c.args.sink.now).held (g.W.Sink.end c.write_all.new.self).held (codes "outbox rows refused:") (place_text c.args.key) c.in-Err.ensures.err

pub returns-clause-err : goal.returns-clause-err
returns-clause-err g c =
    front_if_err c.place_line.result (g.W.Sink.end c.args.sink.now).held (g.W.Sink.end c.write_all.new.self).held (g.W.Sink.end c.place_line.new.sink).held (codes "outbox rows refused:") (place_text c.args.key) c.in-Ok.ensures.ok c.place_line.ensures.err

pub returns-clause-ok : goal.returns-clause-ok
returns-clause-ok g c =
    whole_if_ok c.place_line.result (g.W.Sink.end c.args.sink.now).held (g.W.Sink.end c.write_all.new.self).held (g.W.Sink.end c.place_line.new.sink).held (codes "outbox rows refused:") (place_text c.args.key) c.in-Ok.ensures.ok c.place_line.ensures.ok
