use Rattle.std.proofs.Common.{rules, []}
use Rattle.sqlite.specs.Held.{state}
use Rattle.sqlite.specs.Steps.{over_memory}
use Rattle.wb_base.specs.KeptRows.{all_changed}
use Rattle.wb_stored.specs.Told.{HoldsRows}
use Rattle.wb_stored.proofs.Empty.{memory_is_honest}
use Rattle.wb_sqlite_tests.proofs.kept.Goals as goal

pub returns : goal.returns
returns c =
    let changes = c.args.changes.now in
    let first : HoldsRows (state over_memory c.in-Ok.keeper.conn) [] = search rules in
    let after : HoldsRows (state over_memory c.apply.new.self.conn) (all_changed [] changes) = c.in_ok-apply.ensures.ok (memory_is_honest c.apply.new.self.conn) [] first in
    c.load.ensures.all (memory_is_honest c.load.new.self.conn) (all_changed [] changes) after
