use Rattle.std.proofs.Common.{◌≡◌, List, max, ap, ◌∙◌, subst}
use Rattle.wb_base.specs.declared.rows.Row.{Row}
use Rattle.wb_rows.specs.Held.{held_by}
use Rattle.wb_notice.specs.Notifies.{time_at}
use Rattle.wb_notice.specs.Outbox.{box, new_notices}
use Rattle.wb_notice.specs.Owed.{unsealed}
use Rattle.wb_notice.proofs.notifying.deliver_kept.Goals as goal

pub returns-in-Ok-send-clause-ok : goal.returns-in-Ok-send-clause-ok
returns-in-Ok-send-clause-ok g c =
    let kept = held_by c.in-Ok.tables in
    let now : c.later-now.result ≡ time_at c.args.moment kept = c.later-now.ensures.later ∙ ap (max c.args.moment) c.latest_kept.ensures in
    let sent = c.in-Ok-send.ensures.ok in
    record {
      kept = kept;
      read = c.in-Ok.ensures.ok;
      rows = sent.rows;
      loaded = sent.loaded;
      all = sent.notices;
      added = subst (λ time. c.in-Ok-send.news.notices.items ≡ new_notices (unsealed kept) time sent.rows) now sent.news.notices;
      left = subst (λ time. (g.B.Keeper.end c.send.new.outbox).honest → (before : List Row) → (g.B.Keeper.end c.args.outbox.now).holds before → (g.B.Keeper.end c.send.new.outbox).holds (box (unsealed kept) time before)) now c.in-Ok-send.ensures.delivered;
    }

pub returns-in-Err-Keeper-clause-err : goal.returns-in-Err-Keeper-clause-err
returns-in-Err-Keeper-clause-err g c = (rw c.in-Err-Keeper.field-0-is at c.in-Err-Keeper.ensures.err, (held_by c.in-Ok.tables, c.in-Ok.ensures.ok))

pub returns-in-Err-OutboxRows-clause-err : goal.returns-in-Err-OutboxRows-clause-err
returns-in-Err-OutboxRows-clause-err g c = let refused = rw c.in-Err-OutboxRows.field-0-is at c.in-Err-OutboxRows.ensures.err in (refused.0, (held_by c.in-Ok.tables, c.in-Ok.ensures.ok))
