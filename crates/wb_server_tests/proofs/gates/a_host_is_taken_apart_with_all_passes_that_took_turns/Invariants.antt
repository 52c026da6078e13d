use Rattle.wb_server_tests.proofs.gates.a_host_is_taken_apart_with_all_passes_that_took_turns.Given as goal

abbrev pub ghosts-share-A-Ledger : goal.ghosts-share-A-Ledger
ghosts-share-A-Ledger g a = record { name = a.host.turns; parts = 2 }

abbrev pub ghosts-share-B-Ledger : goal.ghosts-share-B-Ledger
ghosts-share-B-Ledger g a = record { name = a.host.numbers; parts = 2 }

abbrev pub ghosts-share-A-Origin : goal.ghosts-share-A-Origin
ghosts-share-A-Origin g a = record { desk = a.host.desk; honest = Unit {0} }
