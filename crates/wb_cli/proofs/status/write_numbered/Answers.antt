use Rattle.std.proofs.Common.{◌++◌, [], ◌∷◌, decimal, ◌∙◌, subst}
use Rattle.std.specs.Io.KnownBytes.{Appends}
use Rattle.std.proofs.KnownBytes.{Appends-trans}
use Rattle.wb_base.specs.Outside.{AppendsFront}
use Rattle.wb_cli.proofs.SinkLemmas.{front_more, front_after, front_if_err}
use Rattle.wb_cli.proofs.status.write_numbered.Goals as goal

pub returns-in-Err-clause-err : goal.returns-in-Err-clause-err
returns-in-Err-clause-err g c =
    front_more (g.W.Sink.end c.args.sink.now).held (g.W.Sink.end c.write_all.new.self).held (c.args.text.now ++ decimal c.args.n) (10 ∷ [])
    (front_more (g.W.Sink.end c.args.sink.now).held (g.W.Sink.end c.write_all.new.self).held c.args.text.now (decimal c.args.n) c.in-Err.ensures.err)

pub returns-in-Err-write_all-clause-err : goal.returns-in-Err-write_all-clause-err
returns-in-Err-write_all-clause-err g c =
    front_more (g.W.Sink.end c.args.sink.now).held (g.W.Sink.end c.write_all-2.new.self).held (c.args.text.now ++ decimal c.args.n) (10 ∷ [])
    (front_after (g.W.Sink.end c.args.sink.now).held (g.W.Sink.end c.write_all.new.self).held (g.W.Sink.end c.write_all-2.new.self).held c.args.text.now (decimal c.args.n) c.in-Ok.ensures.ok
    (subst (AppendsFront (g.W.Sink.end c.write_all.new.self).held (g.W.Sink.end c.write_all-2.new.self).held) (c.as_bytes.ensures.value ∙ c.format.ensures.text) c.in-Err-write_all.ensures.err))

pub returns-clause-err : goal.returns-clause-err
returns-clause-err g c =
    front_if_err c.write_all-3.result (g.W.Sink.end c.args.sink.now).held (g.W.Sink.end c.write_all-2.new.self).held (g.W.Sink.end c.write_all-3.new.self).held (c.args.text.now ++ decimal c.args.n) (10 ∷ [])
    (Appends-trans (g.W.Sink.end c.args.sink.now).held (g.W.Sink.end c.write_all.new.self).held (g.W.Sink.end c.write_all-2.new.self).held c.args.text.now (decimal c.args.n) c.in-Ok.ensures.ok
    (subst (Appends (g.W.Sink.end c.write_all.new.self).held (g.W.Sink.end c.write_all-2.new.self).held) (c.as_bytes.ensures.value ∙ c.format.ensures.text) c.in-Ok-write_all.ensures.ok)) c.write_all-3.ensures.err
