use Rattle.wb_server.proofs.stations.serve_by.Given as goal

abbrev pub ghosts-serve_on-A-Ledger : goal.ghosts-serve_on-A-Ledger
ghosts-serve_on-A-Ledger g a = record { name = a.turns.name; parts = a.turns.parts }

abbrev pub ghosts-serve_on-B-Ledger : goal.ghosts-serve_on-B-Ledger
ghosts-serve_on-B-Ledger g a = record { name = a.numbers.name; parts = a.numbers.parts }

abbrev pub ghosts-serve_on-A-Origin : goal.ghosts-serve_on-A-Origin
ghosts-serve_on-A-Origin g a = record { desk = a.desk; honest = (g.K.Keeper.end a.keeper).honest }
