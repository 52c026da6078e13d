use Rattle.std.proofs.Common.{length, ◌∙◌, subst}
use Rattle.std.specs.List.{flat_map}
use Rattle.std.specs.Prelude.{OnErr}
use Rattle.wb_base.specs.Outside.{AppendsFront}
use Rattle.wb_cli.proofs.SinkLemmas.{front_if_err, front_more}
use Rattle.wb_notice.specs.Notifies.{count_line, notice_line}
use Rattle.wb_notice.proofs.lines.write_notices.Goals as goal

pub returns-in-Err-clause-err : goal.returns-in-Err-clause-err
returns-in-Err-clause-err g c = front_more (g.W.Sink.end c.args.sink.now).held (g.W.Sink.end c.write_all.new.sink).held (flat_map notice_line c.args.notices.now) (count_line (length c.args.notices.now)) c.in-Err.ensures.err

pub returns-clause-err : goal.returns-clause-err
returns-clause-err g c =
    front_if_err c.write_all-2.result (g.W.Sink.end c.args.sink.now).held (g.W.Sink.end c.write_all.new.sink).held (g.W.Sink.end c.write_all-2.new.self).held (flat_map notice_line c.args.notices.now) (count_line (length c.args.notices.now)) c.in-Ok.ensures.ok
    (subst (λ text. OnErr c.write_all-2.result (AppendsFront (g.W.Sink.end c.write_all.new.sink).held (g.W.Sink.end c.write_all-2.new.self).held text)) (c.as_bytes.ensures ∙ c.count_line.ensures) c.write_all-2.ensures.err)
