use Rattle.wb_server_tests.proofs.connecting.connect.Given as goal

abbrev pub ghosts-connect_on-A-Ledger : goal.ghosts-connect_on-A-Ledger
ghosts-connect_on-A-Ledger g a = record { name = a.host.turns; parts = 2 }

abbrev pub ghosts-connect_on-B-Ledger : goal.ghosts-connect_on-B-Ledger
ghosts-connect_on-B-Ledger g a = record { name = a.host.numbers; parts = 2 }

abbrev pub ghosts-connect_on-A-Origin : goal.ghosts-connect_on-A-Origin
ghosts-connect_on-A-Origin g a = record { desk = a.host.desk; honest = Unit {0} }
