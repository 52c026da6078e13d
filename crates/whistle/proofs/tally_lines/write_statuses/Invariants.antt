use Rattle.std.proofs.Common.{◌≡◌}
use Rattle.whistle.proofs.TallyLemmas.{WroteRows}
use Rattle.whistle.proofs.tally_lines.write_statuses.Given as goal

abbrev pub invariant-loop-row : goal.invariant-loop-row
invariant-loop-row g l = record {
  so_far : WroteRows (g.W.Sink.end l.fn.sink).held (g.W.Sink.end l.sink).held l.fn.rows l.row-index;
  stayed : (g.W.Sink.end l.sink).count ≡ (g.W.Sink.end l.fn.sink).count;
}
