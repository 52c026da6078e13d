use Rattle.wb_server_tests.proofs.tickets.a_gate_is_closed_with_all_its_seats_and_tells_all_turns.Given as goal

abbrev pub ghosts-take_turns-A-Ledger : goal.ghosts-take_turns-A-Ledger
ghosts-take_turns-A-Ledger g a = record { name = a.host.turns; parts = 2 }

abbrev pub ghosts-take_turns-B-Ledger : goal.ghosts-take_turns-B-Ledger
ghosts-take_turns-B-Ledger g a = record { name = a.host.numbers; parts = 2 }

abbrev pub ghosts-take_turns-A-Origin : goal.ghosts-take_turns-A-Origin
ghosts-take_turns-A-Origin g a = record { desk = a.host.desk; honest = Unit {0} }
