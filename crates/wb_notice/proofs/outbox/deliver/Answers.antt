use Rattle.std.proofs.Common.{not, sym, subst}
use Rattle.wb_base.specs.KeptRows.{key_cmp, key_of}
use Rattle.wb_list.specs.Keyed.{IsAscending}
use Rattle.wb_rows.specs.Held.{held_by}
use Rattle.wb_notice.specs.declared.notice.Notice.{Notice}
use Rattle.wb_notice.specs.Notices.{notice_row}
use Rattle.wb_notice.specs.Outbox.{stands}
use Rattle.wb_notice.proofs.OwedOrder.{owed_ascend}
use Rattle.wb_notice.proofs.outbox.deliver.Goals as goal

pub returns-clause-by_key : goal.returns-clause-by_key
returns-clause-by_key g c =
    let sent = c.in_ok-send.ensures.ok in
    subst (IsAscending key_cmp key_of) (sym sent.news.added) (owed_ascend (held_by c.args.tables.now) c.args.now c.requires (λ (n : Notice). not (stands sent.rows (notice_row n).key)))
