use Rattle.wb_sqlite.proofs.statements.run_on.Goals as goal

pub returns-clause-made : goal.returns-clause-made
returns-clause-made g c clean inside = rw (c.params-to_sql.ensures, c.params-to_sql-2.ensures) at (c.run.ensures.made clean inside)
