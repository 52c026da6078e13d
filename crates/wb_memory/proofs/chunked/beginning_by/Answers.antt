use Rattle.std.proofs.Common.{rules}
use Rattle.std.specs.Ordering.{is_le}
use Rattle.std.proofs.lemmas.List.Sorted.{IsPartitionPoint-from_clause}
use Rattle.wb_list.specs.Room.{Room}
use Rattle.wb_memory.specs.Chunks.{begins_by}
use Rattle.wb_memory.proofs.ChunkOrder.{chunks_parted}
use Rattle.wb_memory.proofs.Putting.{down_by}
use Rattle.wb_memory.proofs.chunked.beginning_by.Goals as goal

pub returns-clause-parted : goal.returns-clause-parted
returns-clause-parted g c =
    let k = g.T.Keyed.key_of c.args.item.now in
    let parted = chunks_parted g.T.Key.Ord.cmp g.T.Keyed.key_of (λ item. is_le (g.T.Key.Ord.cmp (g.T.Keyed.key_of item) k)) (down_by g.met.T.Key.Ord.total g.T.Keyed.key_of k) c.deref.result.now (rw c.deref.ensures.value c.requires.filled) (rw c.deref.ensures.value c.requires.ascending) in
    rw (← c.deref.ensures.value) (IsPartitionPoint-from_clause (λ (chunk : Room _). begins_by g.T.Key.Ord.cmp g.T.Keyed.key_of k chunk.items) c.deref.result.now c.partition_point.result c.partition_point.ensures.partitioned parted (λ a r f' called. search rules))
