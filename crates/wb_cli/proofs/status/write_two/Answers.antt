use Rattle.std.proofs.Common.{◌++◌, decimal}
use Rattle.wb_cli.proofs.SinkLemmas.{front_more, front_if_err}
use Rattle.wb_cli.proofs.status.write_two.Goals as goal

pub returns-in-Err-clause-err : goal.returns-in-Err-clause-err
returns-in-Err-clause-err g c = front_more (g.W.Sink.end c.args.sink.now).held (g.W.Sink.end c.write_part.new.sink).held (c.args.first.now ++ decimal c.args.n) (c.args.second.now ++ decimal c.args.m) c.in-Err.ensures.err

pub returns-clause-err : goal.returns-clause-err
returns-clause-err g c =
    front_if_err c.write_part-2.result (g.W.Sink.end c.args.sink.now).held (g.W.Sink.end c.write_part.new.sink).held (g.W.Sink.end c.write_part-2.new.sink).held (c.args.first.now ++ decimal c.args.n) (c.args.second.now ++ decimal c.args.m) c.in-Ok.ensures.ok c.write_part-2.ensures.err
