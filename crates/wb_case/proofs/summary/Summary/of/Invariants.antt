use Rattle.std.proofs.Common.{take}
use Rattle.wb_case.specs.Summaries.{IsSummary}
use Rattle.wb_case.proofs.summary.Summary.of.Given as goal

abbrev pub invariant-loop-at : goal.invariant-loop-at
invariant-loop-at l = IsSummary l.summary (take l.at l.entries)
