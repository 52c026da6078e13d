use Rattle.sqlite.specs.Held.{state}
use Rattle.sqlite.specs.Files.{over_files, image_of}
use Rattle.wb_stored.proofs.KeptFiles.{files_told}
use Rattle.wb_sqlite_tests.proofs.reopened.Goals as goal

pub returns-in-Ok : goal.returns-in-Ok
returns-in-Ok g c =
    let opened = state over_files c.in-Ok.conn in
    rw c.over.ensures (λ honest rows holds.
    let is = c.in-Ok.ensures.opened honest.0 in
    let finds = c.in-Ok.ensures.found honest.0 in
    files_told (image_of g.D.Disk c.in_ok-files.files) opened rows is.0 is.1 finds.holds finds.reads (c.in_ok-files.ensures.closed finds.honest rows holds).0)
