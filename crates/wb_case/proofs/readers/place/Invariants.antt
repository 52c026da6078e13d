use Rattle.std.proofs.Common.{◌≡◌, ◌++◌, take, drop}
use Rattle.wb_model.specs.Trails as trails
use Rattle.wb_case.proofs.readers.place.Given as goal

abbrev pub invariant-loop-at : goal.invariant-loop-at
invariant-loop-at l = take l.at l.readers ++ trails.with_reader l.user (drop l.at l.readers) ≡ trails.with_reader l.user l.readers
