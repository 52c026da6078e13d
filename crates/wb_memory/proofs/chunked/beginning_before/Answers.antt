use Rattle.std.proofs.Common.{rules}
use Rattle.std.specs.Ordering.{is_lt}
use Rattle.std.proofs.lemmas.List.Sorted.{IsPartitionPoint-from_clause}
use Rattle.wb_list.specs.Room.{Room}
use Rattle.wb_memory.specs.Chunks.{begins}
use Rattle.wb_memory.proofs.ChunkOrder.{chunks_parted}
use Rattle.wb_memory.proofs.Dropping.{down_before}
use Rattle.wb_memory.proofs.chunked.beginning_before.Goals as goal

pub returns-clause-parted : goal.returns-clause-parted
returns-clause-parted g c =
    let side = g.X.ItemRun.side c.args.run.now in
    let parted = chunks_parted g.T.Key.Ord.cmp g.T.Keyed.key_of (λ item. is_lt (side item)) (down_before g.T.Key.Ord.cmp g.T.Keyed.key_of side c.requires.run) c.deref.result.now (rw c.deref.ensures.value c.requires.filled) (rw c.deref.ensures.value c.requires.ascending) in
    rw (← c.deref.ensures.value) (IsPartitionPoint-from_clause (λ (chunk : Room _). begins (λ item. is_lt (side item)) chunk.items) c.deref.result.now c.partition_point.result c.partition_point.ensures.partitioned parted (λ a r f' called. search rules))
