use Rattle.wb_notice.proofs.NoticeRows.{first_other}
use Rattle.wb_notice.proofs.reading.read_notices.Goals as goal

pub returns-in-None-clause-err : goal.returns-in-None-clause-err
returns-in-None-clause-err c =
    let other = rw c.in-None.is at c.in_ok-notice.ensures.none in
    first_other c.args.rows.now c.loop-row.row-index c.row-item.result c.loop-row.notices.items c.loop-row-test.true c.row-item.is c.loop-row.invariant.own c.loop-row.invariant.ranged other
