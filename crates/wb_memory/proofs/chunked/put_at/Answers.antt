use Rattle.std.proofs.Common.{◌+◌, ◌++◌, take, drop, ap, ◌∙◌}
use Rattle.std.proofs.lemmas.List.{get_or_default}
use Rattle.wb_list.specs.Room.{Room}
use Rattle.wb_list.specs.Keyed.{insert_item}
use Rattle.wb_memory.specs.Chunks.{joined}
use Rattle.wb_memory.proofs.ChunkLemmas.{joined_set}
use Rattle.wb_memory.proofs.chunked.put_at.Goals as goal

pub returns-in_default-clause-items : goal.returns-in_default-clause-items
returns-in_default-clause-items g c d =
    let chunks = c.args.chunks.now.items in
    let at = c.args.at in
    let here = c.index_mut.ensures.value ∙ get_or_default chunks at c.index_mut.result.now d c.requires.place in
    let made = c.in_default.ensures.items ∙ ap (λ (b : Room _). insert_item g.T.Key.Ord.cmp g.T.Keyed.key_of b.items c.args.item) here in
    joined_set chunks at c.put.new.chunk c.requires.place ∙ ap (λ t. joined (take at chunks) ++ (t ++ joined (drop (at + 1) chunks))) made
