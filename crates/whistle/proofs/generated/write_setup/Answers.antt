use Rattle.std.proofs.Common.{◌∙◌, subst}
use Rattle.std.specs.Io.KnownBytes.{Appends}
use Rattle.wb_base.specs.Outside.{AppendsFront}
use Rattle.whistle.specs.declared.sample_setup.TheConstants.{HARBOUR}
use Rattle.whistle.proofs.GeneratedLemmas.{sent_line, sent_bytes, sent_end, sent_all}
use Rattle.whistle.proofs.generated.write_setup.Goals as goal

pub returns-in-Err-clause-err : goal.returns-in-Err-clause-err
returns-in-Err-clause-err g c =
    sent_line c.as_bytes.result.now HARBOUR.now (c.as_bytes.ensures ∙ c.setup_head-line.ensures) (g.W.Sink.end c.args.sink.now).held (g.W.Sink.end c.write_all.new.self).held c.in-Err.ensures.err

pub returns-in-Err-write_all-clause-err : goal.returns-in-Err-write_all-clause-err
returns-in-Err-write_all-clause-err g c =
    sent_bytes c.as_bytes.result.now HARBOUR.now (c.as_bytes.ensures ∙ c.setup_head-line.ensures) (g.W.Sink.end c.args.sink.now).held (g.W.Sink.end c.write_all.new.self).held (g.W.Sink.end c.write_all-2.new.self).held c.in-Ok.ensures.ok
    (subst (AppendsFront (g.W.Sink.end c.write_all.new.self).held (g.W.Sink.end c.write_all-2.new.self).held) c.as_bytes-2.ensures.value c.in-Err-write_all.ensures.err)

pub returns-in-Ok-write_all-2-clause-ok : goal.returns-in-Ok-write_all-2-clause-ok
returns-in-Ok-write_all-2-clause-ok g c =
    sent_all c.as_bytes.result.now HARBOUR.now (c.as_bytes.ensures ∙ c.setup_head-line.ensures) (g.W.Sink.end c.args.sink.now).held (g.W.Sink.end c.write_all.new.self).held (g.W.Sink.end c.write_all-2.new.self).held (g.W.Sink.end c.write_all-3.new.self).held c.in-Ok.ensures.ok
    (subst (Appends (g.W.Sink.end c.write_all.new.self).held (g.W.Sink.end c.write_all-2.new.self).held) c.as_bytes-2.ensures.value c.in-Ok-write_all.ensures.ok) c.in-Ok-write_all-2.ensures.ok

pub returns-in-Err-write_all-2-clause-err : goal.returns-in-Err-write_all-2-clause-err
returns-in-Err-write_all-2-clause-err g c =
    sent_end c.as_bytes.result.now HARBOUR.now (c.as_bytes.ensures ∙ c.setup_head-line.ensures) (g.W.Sink.end c.args.sink.now).held (g.W.Sink.end c.write_all.new.self).held (g.W.Sink.end c.write_all-2.new.self).held (g.W.Sink.end c.write_all-3.new.self).held c.in-Ok.ensures.ok
    (subst (Appends (g.W.Sink.end c.write_all.new.self).held (g.W.Sink.end c.write_all-2.new.self).held) c.as_bytes-2.ensures.value c.in-Ok-write_all.ensures.ok) c.in-Err-write_all-2.ensures.err
