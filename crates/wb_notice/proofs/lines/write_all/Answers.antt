use Rattle.std.proofs.Common.{refl, ◌∙◌, subst}
use Rattle.std.specs.Io.KnownBytes.{Appends}
use Rattle.wb_base.specs.Outside.{AppendsFront}
use Rattle.wb_notice.proofs.WrittenLines.{all_written, none_written, one_cut, one_written}
use Rattle.wb_notice.proofs.lines.write_all.Goals as goal

pub loop-notice-init : goal.loop-notice-init
loop-notice-init g c = record { so_far = none_written (g.W.Sink.end c.args.sink.now).held c.args.notices.now; stayed = refl }

pub loop-notice-preserved : goal.loop-notice-preserved
loop-notice-preserved g c = record {
  so_far = one_written (g.W.Sink.end c.args.sink.now).held (g.W.Sink.end c.loop-notice.sink).held (g.W.Sink.end c.write_all.new.self).held c.args.notices.now c.loop-notice.notice-index c.notice-item.result c.loop-notice-test.true c.notice-item.is c.loop-notice.invariant.so_far
      (subst (Appends (g.W.Sink.end c.loop-notice.sink).held (g.W.Sink.end c.write_all.new.self).held) (c.as_bytes.ensures ∙ c.notice_line.ensures) c.in-Ok.ensures.ok);
  stayed = c.in-Ok.ensures.cause.stayed ∙ c.loop-notice.invariant.stayed;
}

pub returns-in-Err-clause-err : goal.returns-in-Err-clause-err
returns-in-Err-clause-err g c =
    one_cut (g.W.Sink.end c.args.sink.now).held (g.W.Sink.end c.loop-notice.sink).held (g.W.Sink.end c.write_all.new.self).held c.args.notices.now c.loop-notice.notice-index c.notice-item.result c.loop-notice-test.true c.notice-item.is c.loop-notice.invariant.so_far
    (subst (AppendsFront (g.W.Sink.end c.loop-notice.sink).held (g.W.Sink.end c.write_all.new.self).held) (c.as_bytes.ensures ∙ c.notice_line.ensures) c.in-Err.ensures.err)

pub returns-clause-ok : goal.returns-clause-ok
returns-clause-ok g c = all_written (g.W.Sink.end c.args.sink.now).held (g.W.Sink.end c.loop-notice.sink).held c.args.notices.now c.loop-notice.notice-index c.loop-notice-test.false c.loop-notice.invariant.so_far
