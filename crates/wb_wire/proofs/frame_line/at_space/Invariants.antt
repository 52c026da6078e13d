use Rattle.std.proofs.Common.{take}
use Rattle.wb_wire.specs.TextReading.{Lacks}
use Rattle.wb_wire.proofs.frame_line.at_space.Given as goal

abbrev pub invariant-loop-at : goal.invariant-loop-at
invariant-loop-at l = Lacks 32 (take l.at l.bytes)
