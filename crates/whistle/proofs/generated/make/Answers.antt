use Rattle.std.proofs.Common.{◌∙◌, arith, subst}
use Rattle.std.specs.Io.KnownBytes.{Appends}
use Rattle.wb_base.specs.Outside.{AppendsFront}
use Rattle.whistle.proofs.GeneratedLemmas.{of_setup, in_frame, after_frame}
use Rattle.whistle.proofs.generated.make.Goals as goal

pub returns-in-Err-clause-err : goal.returns-in-Err-clause-err
returns-in-Err-clause-err g c = of_setup (g.W.Sink.end c.args.sink.now).held (g.W.Sink.end c.write_setup.new.sink).held c.args.turns c.in-Err.ensures.err

pub returns-in-Err-write_all-clause-err : goal.returns-in-Err-write_all-clause-err
returns-in-Err-write_all-clause-err g c =
    in_frame (g.W.Sink.end c.args.sink.now).held (g.W.Sink.end c.loop-before.sink).held (g.W.Sink.end c.write_all.new.self).held c.loop-before.before c.args.turns (omega (arith, c.loop-before-test.true)) c.loop-before.invariant.so_far
    (subst (AppendsFront (g.W.Sink.end c.loop-before.sink).held (g.W.Sink.end c.write_all.new.self).held) (c.as_bytes.ensures ∙ c.frame_at.ensures) c.in-Err-write_all.ensures.err)

pub loop-before-preserved : goal.loop-before-preserved
loop-before-preserved g c = record {
  so_far = after_frame (g.W.Sink.end c.args.sink.now).held (g.W.Sink.end c.loop-before.sink).held (g.W.Sink.end c.write_all.new.self).held c.loop-before.before c.args.turns (omega (arith, c.loop-before-test.true)) c.loop-before.invariant.so_far
      (subst (Appends (g.W.Sink.end c.loop-before.sink).held (g.W.Sink.end c.write_all.new.self).held) (c.as_bytes.ensures ∙ c.frame_at.ensures) c.in-Ok-write_all.ensures.ok);
  stayed = c.in-Ok-write_all.ensures.cause.stayed ∙ c.loop-before.invariant.stayed;
}
