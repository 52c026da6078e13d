use Rattle.std.proofs.Common.{◌≡◌}
use Rattle.wb_notice.proofs.WrittenLines.{HasWritten}
use Rattle.wb_notice.proofs.lines.write_all.Given as goal

abbrev pub invariant-loop-notice : goal.invariant-loop-notice
invariant-loop-notice g l = record {
  so_far : HasWritten (g.W.Sink.end l.fn.sink).held (g.W.Sink.end l.sink).held l.notices l.notice-index;
  stayed : (g.W.Sink.end l.sink).count ≡ (g.W.Sink.end l.fn.sink).count;
}
