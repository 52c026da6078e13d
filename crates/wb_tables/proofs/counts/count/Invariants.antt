use Rattle.std.proofs.Common.{map, drop}
use Rattle.wb_tables.specs.Kept.{place_of}
use Rattle.wb_tables.proofs.Counting.{IsCounted}
use Rattle.wb_tables.proofs.counts.count.Given as goal

abbrev pub invariant-loop-tenancy : goal.invariant-loop-tenancy
invariant-loop-tenancy l = IsCounted (map place_of l.tenancies) (map place_of (drop l.tenancy-index l.tenancies)) l.live l.numbers l.sessions
