-- The pattern grows shorter.
use Rattle.std.proofs.Common.{length}
use Rattle.wb_wire.proofs.segments.+number_under.Given as goal

abbrev pub decreases-number_under : goal.decreases-number_under
decreases-number_under l = length l.pattern.now
