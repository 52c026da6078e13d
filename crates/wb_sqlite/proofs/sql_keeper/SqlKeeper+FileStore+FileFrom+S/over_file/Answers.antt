use Rattle.wb_sqlite.proofs.sql_keeper.SqlKeeper+FileStore+FileFrom+S.over_file.Goals as goal

pub returns-in-Ok-clause-plain : goal.returns-in-Ok-clause-plain
returns-in-Ok-clause-plain g c = rw c.over.ensures c.in-Ok.ensures.plain

pub returns-in-Ok-clause-told : goal.returns-in-Ok-clause-told
returns-in-Ok-clause-told g c = rw c.over.ensures (λ honest rows held. c.in-Ok.ensures.told honest.0 rows held)
