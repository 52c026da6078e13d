use Rattle.std.proofs.Common.{◌≡◌, take, map}
use Rattle.wb_notice.specs.Notices.{notice_row}
use Rattle.wb_notice.proofs.owing.rows_of.Given as goal

abbrev pub invariant-loop-notice : goal.invariant-loop-notice
invariant-loop-notice l = l.rows.items ≡ map notice_row (take l.notice-index l.notices)
