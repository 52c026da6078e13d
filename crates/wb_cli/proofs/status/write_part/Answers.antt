use Rattle.std.proofs.Common.{decimal, ◌∙◌, subst}
use Rattle.std.specs.Prelude.{OnErr}
use Rattle.wb_base.specs.Outside.{AppendsFront}
use Rattle.wb_cli.proofs.SinkLemmas.{front_more, front_if_err}
use Rattle.wb_cli.proofs.status.write_part.Goals as goal

pub returns-in-Err-clause-err : goal.returns-in-Err-clause-err
returns-in-Err-clause-err g c = front_more (g.W.Sink.end c.args.sink.now).held (g.W.Sink.end c.write_all.new.self).held c.args.text.now (decimal c.args.n) c.in-Err.ensures.err

pub returns-clause-err : goal.returns-clause-err
returns-clause-err g c =
    front_if_err c.write_all-2.result (g.W.Sink.end c.args.sink.now).held (g.W.Sink.end c.write_all.new.self).held (g.W.Sink.end c.write_all-2.new.self).held c.args.text.now (decimal c.args.n) c.in-Ok.ensures.ok
    (subst (λ bytes. OnErr c.write_all-2.result (AppendsFront (g.W.Sink.end c.write_all.new.self).held (g.W.Sink.end c.write_all-2.new.self).held bytes)) (c.as_bytes.ensures.value ∙ c.format.ensures.text) c.write_all-2.ensures.err)
