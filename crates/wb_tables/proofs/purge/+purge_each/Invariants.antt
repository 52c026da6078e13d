use Rattle.std.proofs.Common.{length}
use Rattle.wb_tables.proofs.purge.+purge_each.Given as goal

abbrev pub decreases-purge_each : goal.decreases-purge_each
decreases-purge_each l = length l.tenancies.now
