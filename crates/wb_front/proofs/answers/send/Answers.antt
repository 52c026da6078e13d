use Rattle.std.proofs.Common.{◌≡◌, ◌++◌, OnOk, OnErr, ℕ, List, ◌∙◌, subst}
use Rattle.std.specs.Io.KnownBytes.{Appends}
use Rattle.wb_base.specs.Outside.{AppendsFront}
use Rattle.wb_front.specs.Served.{closing, reply_bytes}
use Rattle.wb_wire.specs.Responses.{reply_of}
use Rattle.wb_front.proofs.Sending.{both_are}
use Rattle.wb_front.proofs.answers.send.Goals as goal

pub returns-clause-ok : goal.returns-clause-ok
returns-clause-ok g c =
    let whole : c.as_bytes.result.now ++ c.as_bytes-body.result.now ≡ reply_bytes (closing (reply_of c.args.response.now) c.args.close) =
    both_are c.args.response.now c.args.close c.as_bytes.result.now c.as_bytes-body.result.now c.as_bytes-body.ensures (c.as_bytes.ensures ∙ c.reply_head-head.ensures) in
    subst (λ (bs : List ℕ). OnOk c.send_both.result (Appends (g.L.Link.end c.args.link.now).got (g.L.Link.end c.send_both.new.link).got bs)) whole c.send_both.ensures.ok

pub returns-clause-err : goal.returns-clause-err
returns-clause-err g c =
    let whole : c.as_bytes.result.now ++ c.as_bytes-body.result.now ≡ reply_bytes (closing (reply_of c.args.response.now) c.args.close) =
    both_are c.args.response.now c.args.close c.as_bytes.result.now c.as_bytes-body.result.now c.as_bytes-body.ensures (c.as_bytes.ensures ∙ c.reply_head-head.ensures) in
    subst (λ (bs : List ℕ). OnErr c.send_both.result (AppendsFront (g.L.Link.end c.args.link.now).got (g.L.Link.end c.send_both.new.link).got bs)) whole c.send_both.ensures.err
