use Rattle.std.proofs.Common.{drop, map}
use Rattle.wb_tables.specs.Kept.{place_of}
use Rattle.wb_tables.proofs.DeadNumbers.{IsBatched}
use Rattle.wb_tables.proofs.dead.dead_batch.Given as goal

abbrev pub invariant-loop-tenancy : goal.invariant-loop-tenancy
invariant-loop-tenancy l = IsBatched l.time (map place_of l.tenancies) (map place_of (drop l.tenancy-index l.tenancies)) l.batch.items
