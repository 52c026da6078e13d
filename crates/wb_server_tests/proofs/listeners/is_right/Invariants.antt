use Rattle.wb_server_tests.proofs.listeners.is_right.Given as goal

abbrev pub ghosts-work_on-A-Ledger : goal.ghosts-work_on-A-Ledger
ghosts-work_on-A-Ledger g a = record { name = a.host.turns; parts = 2 }

abbrev pub ghosts-work_on-B-Ledger : goal.ghosts-work_on-B-Ledger
ghosts-work_on-B-Ledger g a = record { name = a.host.numbers; parts = 2 }

abbrev pub ghosts-work_on-A-Origin : goal.ghosts-work_on-A-Origin
ghosts-work_on-A-Origin g a = record { desk = a.host.desk; honest = Unit {0} }
