use Rattle.std.proofs.Common.{ap, rules}
use Rattle.std.specs.Ordering.{is_le}
use Rattle.std.proofs.lemmas.List.Sorted.{IsPartitionPoint-from_clause}
use Rattle.wb_list.specs.Room.{Room}
use Rattle.wb_list.proofs.KeyedRuns.{within_parted}
use Rattle.wb_list.proofs.sorted.Sorted.end_of.Goals as goal

pub returns-clause-end : goal.returns-clause-end
returns-clause-end g c =
    let parted = within_parted g.T.Key.Ord.cmp g.T.Keyed.key_of (g.X.ItemRun.side c.args.run.now) c.requires c.deref.result.now (rw c.deref.ensures.value c.self.invariant) in
    rw (← ap (λ (r : Room _). r.items) c.self.view_is, ← c.deref.ensures.value) (IsPartitionPoint-from_clause (λ x. is_le (g.X.ItemRun.side c.args.run.now x)) c.deref.result.now c.partition_point.result c.partition_point.ensures.partitioned parted (λ a r f' called. search rules))
