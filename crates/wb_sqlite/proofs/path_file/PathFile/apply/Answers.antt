use Rattle.wb_sqlite.proofs.Making.{on_ok_if, on_err_if}
use Rattle.wb_sqlite.proofs.path_file.PathFile.apply.Goals as goal

pub returns-in-Some-clause-made : goal.returns-in-Some-clause-made
returns-in-Some-clause-made c = rw c.in-Some.is (on_ok_if _ _ c.apply_all.result c.apply_all.ensures.made)

pub returns-in-Some-clause-kept : goal.returns-in-Some-clause-kept
returns-in-Some-clause-kept c = rw c.in-Some.is (on_err_if _ _ _ c.apply_all.result c.apply_all.ensures.kept)
