use Rattle.std.proofs.Common.{rules, ◌≡◌, []}
use Rattle.sqlite.specs.Held.{state}
use Rattle.sqlite.specs.State.{HasCleanDisk}
use Rattle.wb_sqlite.specs.Statements.{make_tables, six_texts}
use Rattle.wb_sqlite.proofs.Making.{on_err}
use Rattle.wb_sqlite.proofs.Committing.{IsReady, still_ready, still_understands, commits, commits_not}
use Rattle.wb_sqlite.proofs.database.make_tables.Given as given
use Rattle.wb_sqlite.proofs.database.make_tables.Goals as goal
use Rattle.wb_sqlite.proofs.database.make_tables.Goals.{In_ok-expect_all}

ready : (g : given.Over) (c : In_ok-expect_all g) → HasCleanDisk (state g.S.Store c.expect_all.new.tx.conn.now) → IsReady g.S.Store make_tables c.args.conn.now c.expect_all.new.tx.conn.now
ready g c =
    still_ready g.S.Store make_tables c.args.conn.now _ _ _ c.transaction-tx.ensures.begun c.in_ok-make.ensures.made c.expect_all.ensures.survives c.in_ok-expect_all.ensures.same c.in_ok-expect_all.ensures.inside c.expect_all.ensures.keeps

pub returns-clause-made : goal.returns-clause-made
returns-clause-made g c clean =
    let same : c.commit.new.self.0 ≡ c.conn-2-1.given.0 = search rules in
    commits g.S.Store [] c.args.conn.now _ _ _ _ (ready g (goal.at.returns-clause-made g c).In_ok-expect_all) c.commit.ensures.survives (λ now. (c.in_ok-commit.ensures.ok now).1) same clean

pub returns-in_err-commit-clause-kept : goal.returns-in_err-commit-clause-kept
returns-in_err-commit-clause-kept g c clean up =
    let same : c.commit.new.self.0 ≡ c.conn-2-1.given.0 = search rules in
    on_err _ (commits_not g.S.Store make_tables c.args.conn.now _ _ _ _ _ (ready g (goal.at.returns-in_err-commit-clause-kept g c).In_ok-expect_all) c.commit.ensures.survives c.in_err-commit.ensures.err same clean up)

pub returns-clause-understood : goal.returns-clause-understood
returns-clause-understood g c clean =
    let same : c.commit.new.self.0 ≡ c.conn-2-1.given.0 = search rules in
    still_understands g.S.Store six_texts c.make.new.tx.conn.now c.expect_all.new.tx.conn.now _ _ _ c.in_ok-expect_all.ensures.understood c.in_ok-expect_all.ensures.same c.commit.ensures.survives (λ now. (c.in_ok-commit.ensures.ok now).1) same clean
