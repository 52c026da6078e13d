use Rattle.sqlite.specs.Held.{state}
use Rattle.sqlite.specs.Files.{over_files, image_of}
use Rattle.wb_stored.specs.KeptFiles.{FilesHoldAlone}
use Rattle.wb_stored.specs.Told.{HoldsRows}
use Rattle.wb_stored.proofs.KeptFiles.{closed_hold}
use Rattle.wb_sqlite.proofs.sql_keeper.SqlKeeper+FileStore+D.close.Goals as goal

pub returns-in-Ok-clause-closed : goal.returns-in-Ok-clause-closed
returns-in-Ok-clause-closed g c clean rows =
    let image = image_of g.D.Disk c.in-Ok.files in
    let old = state over_files c.self.inside.conn in
    let done : HoldsRows old rows → FilesHoldAlone image rows = closed_hold image old rows (c.in-Ok.ensures.copied clean).seen in
    rw (← c.self.view_is) done

pub returns-in-Ok-clause-left : goal.returns-in-Ok-clause-left
returns-in-Ok-clause-left g c clean rows =
    let old = state over_files c.self.inside.conn in
    rw (← c.self.view_is) (λ (holds : HoldsRows old rows) image may. closed_hold image old rows ((c.in-Ok.ensures.copied clean).left image may) holds)
