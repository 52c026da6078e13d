use Rattle.std.proofs.Common.{◌≡◌, IsTrue, drop}
use Rattle.sqlite.specs.Held.{state}
use Rattle.sqlite.specs.State.{HasCleanDisk, Survives}
use Rattle.wb_sqlite.proofs.Making.{HasMade}
use Rattle.wb_sqlite.proofs.statements.make_all.Given as goal

abbrev pub invariant-loop-change : goal.invariant-loop-change
invariant-loop-change g l =
    let start = l.initial.tx.conn.now in
    let now = l.tx.conn.now in
    (l.tx.conn.ghost_name ≡ l.initial.tx.conn.ghost_name)
    × Survives (state g.S.Store start) (state g.S.Store now) (λ _. ⊥)
    × (HasCleanDisk (state g.S.Store now) → IsTrue start.in_transaction → HasMade g.S.Store l.changes (drop l.change-index l.changes) start now)
