use Rattle.sqlite.specs.Held.{state}
use Rattle.wb_base.specs.KeptRows.{all_changed}
use Rattle.wb_stored.specs.Told.{HoldsRows}
use Rattle.wb_stored.proofs.Empty.{commit_leaves}
use Rattle.wb_sqlite.proofs.Batches.{commits_hold, each_good}
use Rattle.wb_sqlite.proofs.sql_keeper.SqlKeeperKeeper.apply.Goals as goal

pub returns-in-Ok-clause-ok : goal.returns-in-Ok-clause-ok
returns-in-Ok-clause-ok g c honest rows =
    let changes = c.args.changes.now in
    let old = c.self.inside.conn in
    let new = c.apply_all.new.conn in
    let done : HoldsRows (state g.S.Store old) rows → HoldsRows (state g.S.Store new) (all_changed rows changes) =
    λ holds. commits_hold g.S.Store changes old new rows (each_good changes c.requires) holds (c.in-Ok.ensures.made honest.0) in
    rw (← c.self.view_is) done

pub returns-in-Ok-clause-made : goal.returns-in-Ok-clause-made
returns-in-Ok-clause-made g c clean = rw (← c.self.view_is) (c.in-Ok.ensures.made clean)

pub returns-in-Ok-clause-crash : goal.returns-in-Ok-clause-crash
returns-in-Ok-clause-crash g c clean rows = rw (← c.self.view_is) (c.in-Ok.ensures.crash clean c.requires rows)

pub returns-in-Err-clause-crash : goal.returns-in-Err-clause-crash
returns-in-Err-clause-crash g c clean rows = rw (← c.self.view_is) (c.in-Err.ensures.crash clean c.requires rows)

pub returns-in-Ok-clause-durable : goal.returns-in-Ok-clause-durable
returns-in-Ok-clause-durable g c honest rows holds db may =
    let now = c.apply_all.new.conn in
    commit_leaves (state g.S.Store now) rows db holds (g.met.S.Store.settled now.store db honest.1 may)

pub returns-in-Err-clause-durable : goal.returns-in-Err-clause-durable
returns-in-Err-clause-durable g c honest rows holds db may =
    let now = c.apply_all.new.conn in
    commit_leaves (state g.S.Store now) rows db holds (g.met.S.Store.settled now.store db honest.1 may)
