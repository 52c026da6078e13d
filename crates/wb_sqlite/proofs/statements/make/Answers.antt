use Rattle.std.proofs.Common.{◌∷◌, []}
use Rattle.wb_sqlite.specs.Statements.{make_record, make_sealed}
use Rattle.wb_sqlite.proofs.Making.{made_both}
use Rattle.wb_sqlite.proofs.statements.make.Goals as goal

pub returns-clause-made : goal.returns-clause-made
returns-clause-made g c = made_both g.S.Store (make_record ∷ []) (make_sealed ∷ []) c.args.tx.now.conn.now c.run.new.tx.conn.now c.run-2.new.tx.conn.now c.run-2.result c.in_ok-run.ensures.made c.run-2.ensures.survives c.run-2.ensures.made
