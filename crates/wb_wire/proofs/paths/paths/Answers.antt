-- The table is the definition's, row for row.
use Rattle.std.proofs.Common.{refl}
use Rattle.wb_model.specs.Routes.{paths as paths_of}
use Rattle.wb_wire.proofs.paths.paths.Goals as goal

pub returns : goal.returns
unfolding paths_of
returns c = refl
