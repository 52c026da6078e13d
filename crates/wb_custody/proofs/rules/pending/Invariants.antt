use Rattle.std.proofs.Common.{◌≡◌, ◌+◌, drop}
use Rattle.wb_model.specs.Moves as moves
use Rattle.wb_custody.proofs.rules.pending.Given as goal

abbrev pub invariant-loop-at : goal.invariant-loop-at
invariant-loop-at l = moves.pending_from (l.at + 1) l.user l.stamp (drop l.at l.requests) ≡ moves.pending l.user l.stamp l.requests
