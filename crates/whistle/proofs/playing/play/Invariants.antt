use Rattle.std.proofs.Common.{◌≡◌, ◌≤◌, ◌-◌, ◌+◌, ◌^◌}
use Rattle.wb_tables.specs.Standing.{hosts_of}
use Rattle.whistle.proofs.PlayLemmas.{InRun}
use Rattle.whistle.proofs.playing.play.Given as goal

abbrev pub invariant-loop-frame : goal.invariant-loop-frame
invariant-loop-frame g l = record {
  in_run : InRun (g.S.Source.end l.fn.source) (g.W.Sink.end l.fn.sink) (g.K.Keeper.end l.fn.keeper) (g.S.Source.end l.source) (g.W.Sink.end l.sink) (g.K.Keeper.end l.keeper) (hosts_of l.desk) l.reader;
  few : l.desk.turns ≤ l.reader.taken;
  limit : l.reader.taken ≤ 2 ^ 40;
  back : (g.K.Keeper.end l.keeper).honest → (g.K.Keeper.end l.fn.keeper).honest;
  read_on : (g.S.Source.end l.source).count ≡ (g.S.Source.end l.fn.source).count;
  written_on : (g.W.Sink.end l.sink).count ≡ (g.W.Sink.end l.fn.sink).count;
}

abbrev pub decreases-loop-frame : goal.decreases-loop-frame
decreases-loop-frame g l = 2 ^ 40 + 1 - l.reader.taken
