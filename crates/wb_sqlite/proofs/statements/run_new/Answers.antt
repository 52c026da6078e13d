use Rattle.std.proofs.Common.{inl, refl, arith}
use Rattle.sqlite.specs.Held.{state}
use Rattle.sqlite.specs.State.{HasCleanDisk}
use Rattle.sqlite.specs.Values.{bound}
use Rattle.wb_sqlite.proofs.Making.{tried_made}
use Rattle.wb_sqlite.proofs.statements.run_new.Goals as goal

pub returns-in-Ok-clause-made : goal.returns-in-Ok-clause-made
returns-in-Ok-clause-made g c clean inside = (c.execute.new.self.conn.now, inl (c.in-Ok.field-0, rw c.in-Ok.is at (c.execute.ensures.runs clean inside)), refl)

pub returns-in-Err-SqliteFailure-ConstraintViolation-clause-made : goal.returns-in-Err-SqliteFailure-ConstraintViolation-clause-made
returns-in-Err-SqliteFailure-ConstraintViolation-clause-made g c clean inside =
    let mid = c.execute.new.self.conn.now in
    let clean_mid : HasCleanDisk (state g.S.Store mid) = omega (arith, c.run.ensures.survives.clean) in
    let refused = rw c.in-Err-SqliteFailure-ConstraintViolation.is at (c.execute.ensures.runs clean_mid inside) in
    tried_made g.S.Store c.args.tried.now c.args.text.now (bound c.args.given.now) c.args.tx.now.conn.now mid c.run.new.tx.conn.now _ refused c.run.result (c.run.ensures.made clean) (λ out. (c.run.ensures.ended out).0)
