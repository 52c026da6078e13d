use Rattle.std.proofs.Common.{[], inr, refl}
use Rattle.sqlite.specs.Held.{state}
use Rattle.sqlite.specs.State.{HasCleanDisk}
use Rattle.sqlite.specs.Files.{over_files}
use Rattle.wb_stored.specs.Told.{HoldsRows}
use Rattle.wb_sqlite.proofs.path_file.PathFile.open.Goals as goal

pub returns-clause-loads : goal.returns-clause-loads
returns-clause-loads c clean = (c.in_ok-conn.conn, c.in_ok-rows.ensures.loads clean)

pub returns-clause-none : goal.returns-clause-none
returns-clause-none c honest =
    let was = state over_files c.in_ok-conn.conn in
    let clean : HasCleanDisk was = c.load_all.ensures.clean honest.0 in
    let none : HoldsRows was [] = c.in_ok-conn.ensures.told clean [] (inr (refl, refl)) in
    (c.in_ok-rows.ensures.all honest.0 honest.1 [] none, c.load_all.ensures.same honest.0 honest.1 [] none)
