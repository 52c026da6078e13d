-- The pattern grows shorter.
use Rattle.std.proofs.Common.{length}
use Rattle.wb_wire.proofs.segments.+are_numbers.Given as goal

abbrev pub decreases-are_numbers : goal.decreases-are_numbers
decreases-are_numbers l = length l.pattern.now
