use Rattle.std.proofs.Common.{◌≡◌, vec_len}
use Rattle.wb_server_tests.proofs.served.stations_of.Given as goal

abbrev pub invariant-loop : goal.invariant-loop
invariant-loop l = vec_len l.stations ≡ l.counter
