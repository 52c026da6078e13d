use Rattle.std.proofs.Common.{◌≡◌}
use Rattle.whistle.proofs.GeneratedLemmas.{SoFar}
use Rattle.whistle.proofs.generated.make.Given as goal

abbrev pub invariant-loop-before : goal.invariant-loop-before
invariant-loop-before g l = record {
  so_far : SoFar (g.W.Sink.end l.fn.sink).held (g.W.Sink.end l.sink).held l.before l.fn.turns;
  stayed : (g.W.Sink.end l.sink).count ≡ (g.W.Sink.end l.fn.sink).count;
}
