use Rattle.std.proofs.Common.{length}
use Rattle.wb_desk.proofs.sums.+sum_shares.Given as goal

abbrev pub decreases-sum_shares : goal.decreases-sum_shares
decreases-sum_shares g l = length l.passes.now
