use Rattle.std.proofs.Common.{◌≡◌, All, IsOk, take}
use Rattle.sqlite.specs.Held.{state}
use Rattle.sqlite.specs.Listing.{understood}
use Rattle.sqlite.specs.State.{HasCleanDisk, Survives, KeepsCommit}
use Rattle.wb_sqlite.specs.Statements.{six_texts}
use Rattle.wb_sqlite.proofs.statements.expect_all.Given as goal

abbrev pub invariant-loop-at : goal.invariant-loop-at
invariant-loop-at g l =
    let start = l.initial.tx.conn.now in
    let now = l.tx.conn.now in
    (l.tx.conn.ghost_name ≡ l.initial.tx.conn.ghost_name)
    × Survives (state g.S.Store start) (state g.S.Store now) (λ _. ⊥)
    × (HasCleanDisk (state g.S.Store now) → ((state g.S.Store now).now ≡ (state g.S.Store start).now) × (now.in_transaction ≡ start.in_transaction) × KeepsCommit (state g.S.Store start) (state g.S.Store now))
    × (HasCleanDisk (state g.S.Store now) → All (λ text. IsOk (understood (state g.S.Store start).now.schema text)) (take l.at six_texts))
