use Rattle.std.proofs.Common.{rules, ◌≡◌, ◌++◌, inl}
use Rattle.sqlite.specs.Held.{state}
use Rattle.sqlite_trees.specs.Tree.{Trees}
use Rattle.sqlite.specs.State.{HasCleanDisk, Survives}
use Rattle.wb_sqlite.specs.Statements.{make_tables, all_statements}
use Rattle.wb_sqlite.proofs.Batches.{crash_before, crash_after, each_good}
use Rattle.wb_sqlite.proofs.Making.{on_err}
use Rattle.wb_sqlite.proofs.Committing.{IsReady, is_ready, commits, commits_not}
use Rattle.wb_sqlite.proofs.database.apply_all.Given as given
use Rattle.wb_sqlite.proofs.database.apply_all.Goals as goal
use Rattle.wb_sqlite.proofs.database.apply_all.Goals.{In_ok-make_batch}

ready : (g : given.Over) (c : In_ok-make_batch g) → HasCleanDisk (state g.S.Store c.make_batch.new.tx.conn.now) → IsReady g.S.Store (make_tables ++ all_statements c.args.changes.now) c.args.conn.now c.make_batch.new.tx.conn.now
ready g c clean = is_ready g.S.Store (make_tables ++ all_statements c.args.changes.now) c.args.conn.now _ _ c.transaction-tx.ensures.begun (c.in_ok-make_batch.ensures.made clean)

pub returns-clause-made : goal.returns-clause-made
returns-clause-made g c clean =
    let same : c.commit.new.self.0 ≡ c.conn-2-1.given.0 = search rules in
    commits g.S.Store c.args.changes.now c.args.conn.now _ _ _ _ (ready g (goal.at.returns-clause-made g c).In_ok-make_batch) c.commit.ensures.survives (λ now. (c.in_ok-commit.ensures.ok now).1) same clean

pub returns-in_err-commit-clause-kept : goal.returns-in_err-commit-clause-kept
returns-in_err-commit-clause-kept g c clean up =
    let same : c.commit.new.self.0 ≡ c.conn-2-1.given.0 = search rules in
    on_err _ (commits_not g.S.Store (make_tables ++ all_statements c.args.changes.now) c.args.conn.now _ _ _ _ _ (ready g (goal.at.returns-in_err-commit-clause-kept g c).In_ok-make_batch) c.commit.ensures.survives c.in_err-commit.ensures.err same clean up)

pub returns-clause-crash : goal.returns-clause-crash
returns-clause-crash g c clean good rows holds =
    let last = c.make_batch.new.tx.conn.now in
    let end = c.conn-2-1.given.0 in
    let ends : Survives (state g.S.Store last) (state g.S.Store end) (λ (db : Trees). db ≡ (state g.S.Store last).now.trees) = search rules in
    crash_after g.S.Store c.args.changes.now c.args.conn.now _ last end rows c.transaction-tx.ensures.begun c.make_batch.ensures.survives ends c.in_ok-make_batch.ensures.made (each_good _ good) holds clean

pub returns-in_err-commit-clause-crash : goal.returns-in_err-commit-clause-crash
returns-in_err-commit-clause-crash g c clean good rows holds =
    let last = c.make_batch.new.tx.conn.now in
    let end = c.conn-2-1.given.0 in
    let ends : Survives (state g.S.Store last) (state g.S.Store end) (λ (db : Trees). db ≡ (state g.S.Store last).now.trees) = search rules in
    crash_after g.S.Store c.args.changes.now c.args.conn.now _ last end rows c.transaction-tx.ensures.begun c.make_batch.ensures.survives ends c.in_ok-make_batch.ensures.made (each_good _ good) holds clean

pub returns-in_err-make_batch-clause-crash : goal.returns-in_err-make_batch-clause-crash
returns-in_err-make_batch-clause-crash g c clean good rows holds db may =
    let mid = c.make_batch.new.tx.conn.now in
    let end = c.conn-1.given.0 in
    let ends : Survives (state g.S.Store mid) (state g.S.Store end) (λ _. ⊥) = search rules in
    inl (crash_before g.S.Store c.args.conn.now _ mid end c.transaction-tx.ensures.begun c.make_batch.ensures.survives ends clean db may)
