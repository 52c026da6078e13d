use Rattle.std.proofs.Common.{◌≡◌}
use Rattle.wb_input_tests.proofs.ticket_locks.many.Given as goal

abbrev pub invariant-loop : goal.invariant-loop
invariant-loop g l = l.seat.lock ≡ l.lock.id
