use Rattle.std.proofs.Common.{◌≡◌, ◌++◌, take}
use Rattle.wb_memory.specs.Chunks.{joined}
use Rattle.wb_memory.proofs.chunked.append_chunks.Given as goal

abbrev pub invariant-loop-chunk : goal.invariant-loop-chunk
invariant-loop-chunk g l = l.copy.items ≡ l.fn.copy.items ++ joined (take l.chunk-index l.chunks)
