use Rattle.sqlite.specs.Held.{state}
use Rattle.sqlite.specs.Files.{over_files}
use Rattle.sqlite_wal.specs.Files.{image_at}
use Rattle.wb_stored.proofs.KeptFiles.{files_told}
use Rattle.wb_sqlite.proofs.opening.open_file.Goals as goal

pub returns-in-Ok-clause-told : goal.returns-in-Ok-clause-told
returns-in-Ok-clause-told g c clean rows =
    let is = c.in-Ok.ensures.opened clean in
    let finds = c.in-Ok.ensures.found clean in
    files_told (image_at g.S.Start) (state over_files c.in-Ok.conn) rows is.0 is.1 finds.holds finds.reads
