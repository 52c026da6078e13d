use Rattle.std.proofs.Common.{◌≡◌}
use Rattle.wb_server_tests.proofs.tickets.ask.Given as goal

abbrev pub invariant-loop-second : goal.invariant-loop-second
invariant-loop-second g l = l.seat.gate ≡ l.gate.id
