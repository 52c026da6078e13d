use Rattle.std.proofs.Common.{sym, ◌∙◌}
use Rattle.wb_memory.proofs.Putting.{put_behind}
use Rattle.wb_memory.proofs.chunked.part.Goals as goal

pub returns-then-begins_by-clause-items : goal.returns-then-begins_by-clause-items
returns-then-begins_by-clause-items g c =
    rw c.set.ensures.items (put_behind g.met.T.Key.Ord.total g.T.Keyed.key_of c.move_last.new.self.items c.move_last.new.into.items c.args.chunk.now.items c.args.item c.move_last.ensures.items c.move_last.ensures.ascending (sym c.begins_by.ensures ∙ c.if-begins_by.true))
