use Rattle.std.proofs.Common.{refl}
use Rattle.wb_sqlite.proofs.statements.run.Goals as goal

pub returns-clause-made : goal.returns-clause-made
returns-clause-made g c clean inside = (c.execute.new.self.conn.now, (c.in_ok-execute.field-0, c.in_ok-execute.ensures.runs clean inside), refl)
