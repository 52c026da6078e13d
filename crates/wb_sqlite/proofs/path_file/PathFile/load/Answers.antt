use Rattle.wb_sqlite.proofs.Making.{if_ok_held}
use Rattle.wb_sqlite.proofs.path_file.PathFile.load.Goals as goal

pub returns-in-Some-clause-loads : goal.returns-in-Some-clause-loads
returns-in-Some-clause-loads c = if_ok_held _ _ c.load_all.result c.in-Some.conn c.load_all.ensures.loads

pub returns-in-Some-clause-all : goal.returns-in-Some-clause-all
returns-in-Some-clause-all c honest rows = rw c.in-Some.is (c.load_all.ensures.all honest.0 honest.1 rows)

pub returns-in-Some-clause-same : goal.returns-in-Some-clause-same
returns-in-Some-clause-same c honest rows = rw c.in-Some.is (c.load_all.ensures.same honest.0 honest.1 rows)
