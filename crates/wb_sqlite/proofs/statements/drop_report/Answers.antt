use Rattle.std.proofs.Common.{◌∷◌, []}
use Rattle.wb_sqlite.specs.Statements.{drop_trail, drop_sealed}
use Rattle.wb_sqlite.proofs.Making.{made_both}
use Rattle.wb_sqlite.proofs.statements.drop_report.Goals as goal

pub returns-clause-made : goal.returns-clause-made
returns-clause-made g c = made_both g.S.Store (drop_trail c.args.tenant c.args.number ∷ []) (drop_sealed c.args.tenant c.args.number ∷ []) c.args.tx.now.conn.now c.run_on.new.tx.conn.now c.run_on-2.new.tx.conn.now c.run_on-2.result c.in_ok-run_on.ensures.made c.run_on-2.ensures.survives c.run_on-2.ensures.made
