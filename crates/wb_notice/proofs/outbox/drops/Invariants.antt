use Rattle.std.proofs.Common.{take}
use Rattle.wb_notice.proofs.Dropped.{AreGone}
use Rattle.wb_notice.proofs.outbox.drops.Given as goal

abbrev pub invariant-loop-notice : goal.invariant-loop-notice
invariant-loop-notice l = AreGone l.live.items (take l.notice-index l.notices) l.drops.items l.last
