use Rattle.sqlite.specs.Files.{over_files}
use Rattle.wb_base.specs.KeptRows.{all_changed}
use Rattle.wb_sqlite.specs.NewFiles.{HoldsIfOpen}
use Rattle.wb_sqlite.proofs.Batches.{each_good}
use Rattle.wb_sqlite.proofs.NewFiles.{commits_if_open}
use Rattle.wb_sqlite.proofs.path_keeper.PathKeeperKeeper.apply.Goals as goal

pub returns-in-Ok-clause-ok : goal.returns-in-Ok-clause-ok
returns-in-Ok-clause-ok c honest rows =
    let changes = c.args.changes.now in
    let old = c.self.inside.file.conn in
    let new = c.apply.new.self.conn in
    let done : HoldsIfOpen over_files old rows → HoldsIfOpen over_files new (all_changed rows changes) = commits_if_open over_files changes old new rows (each_good changes c.requires) c.in-Ok.ensures.made honest in
    rw (← c.self.view_is) done
