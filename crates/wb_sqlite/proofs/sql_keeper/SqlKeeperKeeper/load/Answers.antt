use Rattle.wb_sqlite.proofs.sql_keeper.SqlKeeperKeeper.load.Goals as goal

pub returns-in-Ok-clause-loads : goal.returns-in-Ok-clause-loads
returns-in-Ok-clause-loads g c clean = rw (← c.self.view_is) (c.in-Ok.ensures.loads clean)

pub returns-in-Ok-clause-all : goal.returns-in-Ok-clause-all
returns-in-Ok-clause-all g c honest rows = rw (← c.self.view_is) (c.in-Ok.ensures.all honest.0 honest.1 rows)

pub returns-in-Ok-clause-same : goal.returns-in-Ok-clause-same
returns-in-Ok-clause-same g c honest rows = rw (← c.self.view_is) (c.in-Ok.ensures.same honest.0 honest.1 rows)

pub returns-in-Err-clause-same : goal.returns-in-Err-clause-same
returns-in-Err-clause-same g c honest rows = rw (← c.self.view_is) (c.in-Err.ensures.same honest.0 honest.1 rows)
