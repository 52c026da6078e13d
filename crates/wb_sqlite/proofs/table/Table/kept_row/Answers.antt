use Rattle.wb_sqlite.proofs.table.Table.kept_row.Goals as goal

pub returns-in-Record : goal.returns-in-Record
returns-in-Record c = rw c.in-Record.is c.record_row.ensures

pub returns-in-Sealed : goal.returns-in-Sealed
returns-in-Sealed c = rw c.in-Sealed.is c.sealed_row.ensures
