use Rattle.std.proofs.Common.{◌<◌, All, take}
use Rattle.wb_input_tests.proofs.access.open.Given as goal

abbrev pub invariant-loop-other : goal.invariant-loop-other
invariant-loop-other g l = All (λ other. other.turn < l.session.turn) (take l.other-index l.other-items)
