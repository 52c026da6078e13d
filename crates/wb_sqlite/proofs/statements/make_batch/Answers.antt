use Rattle.wb_sqlite.specs.Statements.{make_tables, all_statements}
use Rattle.wb_sqlite.proofs.Making.{made_both}
use Rattle.wb_sqlite.proofs.statements.make_batch.Goals as goal

pub returns-clause-made : goal.returns-clause-made
returns-clause-made g c = made_both g.S.Store make_tables (all_statements c.args.changes.now) c.args.tx.now.conn.now c.make.new.tx.conn.now c.make_all.new.tx.conn.now c.make_all.result c.in_ok-make.ensures.made c.make_all.ensures.survives c.make_all.ensures.made
