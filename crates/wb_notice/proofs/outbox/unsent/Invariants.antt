use Rattle.std.proofs.Common.{◌≡◌, ◌++◌, drop}
use Rattle.std.specs.Prelude.{filter, not}
use Rattle.wb_notice.specs.declared.notice.Notice.{Notice}
use Rattle.wb_notice.specs.Notices.{notice_row}
use Rattle.wb_notice.specs.Outbox.{stands}
use Rattle.wb_notice.proofs.outbox.unsent.Given as goal

abbrev pub invariant-loop-notice : goal.invariant-loop-notice
invariant-loop-notice l = l.found.items ++ filter (λ (n : Notice). not (stands l.rows.items (notice_row n).key)) (drop l.notice-index l.notices)
    ≡ filter (λ (n : Notice). not (stands l.rows.items (notice_row n).key)) l.notices
