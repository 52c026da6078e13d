use Rattle.sqlite.specs.Held.{state}
use Rattle.wb_sqlite.proofs.Making.{on_err}
use Rattle.wb_sqlite.proofs.Stays.{outlined, unprepared_keeps}
use Rattle.wb_sqlite.proofs.statements.expect.Goals as goal

pub returns-in_err-prepare-clause-kept : goal.returns-in_err-prepare-clause-kept
returns-in_err-prepare-clause-kept g c clean =
    on_err _ (unprepared_keeps c.args.text.now (state g.S.Store c.args.tx.now.conn.now) (state g.S.Store c.prepare.new.self.conn.now) c.prepare.result c.in_err-prepare.field-0.0 c.in_err-prepare.was (c.prepare.ensures.err clean))

pub returns-clause-understood : goal.returns-clause-understood
returns-clause-understood g c clean = outlined _ _ (c.in_ok-prepare.ensures.shape clean)
