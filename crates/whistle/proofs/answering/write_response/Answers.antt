use Rattle.std.proofs.Common.{List, ℕ, ◌+◌, length, ap, ◌∙◌}
use Rattle.wb_model.specs.Replies.{output_line}
use Rattle.wb_wire.specs.Responses.{reply_of}
use Rattle.whistle.proofs.SinkLemmas.{sent_line, sent_head, sent_body, sent_end}
use Rattle.whistle.proofs.answering.write_response.Goals as goal

pub returns-in-Err-clause-err : goal.returns-in-Err-clause-err
returns-in-Err-clause-err g c =
    sent_line (reply_of c.args.response.now) c.as_bytes-2.result.now c.reply_head-head.result c.as_bytes-body.result.now (c.as_bytes-2.ensures ∙ (c.reply_line-line.ensures ∙ ap (λ (h : List ℕ). output_line c.args.response.now.told.status (length h + length c.as_bytes-body.result.now)) c.as_bytes.ensures)) c.reply_head-head.ensures c.as_bytes-body.ensures
    _ _ c.in-Err.ensures.err

pub returns-in-Err-write_all-clause-err : goal.returns-in-Err-write_all-clause-err
returns-in-Err-write_all-clause-err g c =
    sent_head (reply_of c.args.response.now) c.as_bytes-2.result.now c.reply_head-head.result c.as_bytes-body.result.now (c.as_bytes-2.ensures ∙ (c.reply_line-line.ensures ∙ ap (λ (h : List ℕ). output_line c.args.response.now.told.status (length h + length c.as_bytes-body.result.now)) c.as_bytes.ensures)) c.reply_head-head.ensures c.as_bytes-body.ensures
    _ _ _ c.in-Ok.ensures.ok (rw c.as_bytes-3.ensures at c.in-Err-write_all.ensures.err)

pub returns-in-Err-write_all-2-clause-err : goal.returns-in-Err-write_all-2-clause-err
returns-in-Err-write_all-2-clause-err g c =
    sent_body (reply_of c.args.response.now) c.as_bytes-2.result.now c.reply_head-head.result c.as_bytes-body.result.now (c.as_bytes-2.ensures ∙ (c.reply_line-line.ensures ∙ ap (λ (h : List ℕ). output_line c.args.response.now.told.status (length h + length c.as_bytes-body.result.now)) c.as_bytes.ensures)) c.reply_head-head.ensures c.as_bytes-body.ensures
    _ _ _ _ c.in-Ok.ensures.ok (rw c.as_bytes-3.ensures at c.in-Ok-write_all.ensures.ok) c.in-Err-write_all-2.ensures.err

pub returns-in-Err-write_all-3-clause-err : goal.returns-in-Err-write_all-3-clause-err
returns-in-Err-write_all-3-clause-err g c =
    sent_end (reply_of c.args.response.now) c.as_bytes-2.result.now c.reply_head-head.result c.as_bytes-body.result.now (c.as_bytes-2.ensures ∙ (c.reply_line-line.ensures ∙ ap (λ (h : List ℕ). output_line c.args.response.now.told.status (length h + length c.as_bytes-body.result.now)) c.as_bytes.ensures)) c.reply_head-head.ensures c.as_bytes-body.ensures
    _ _ _ _ _ c.in-Ok.ensures.ok (rw c.as_bytes-3.ensures at c.in-Ok-write_all.ensures.ok) c.in-Ok-write_all-2.ensures.ok c.in-Err-write_all-3.ensures.err
