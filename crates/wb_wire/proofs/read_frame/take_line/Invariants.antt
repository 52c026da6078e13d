use Rattle.std.proofs.Common.{◌≡◌, ◌≤◌, ◌-◌, length, take}
use Rattle.std.specs.Io.KnownBytes.{Consumes}
use Rattle.wb_wire.specs.TextReading.{Lacks}
use Rattle.wb_wire.proofs.read_frame.take_line.Given as goal

abbrev pub invariant-loop-used : goal.invariant-loop-used
invariant-loop-used g l = record {
  long : length l.room ≡ 96;
  fits : l.used ≤ 96;
  most : l.used ≤ l.most;
  taken : Consumes (g.S.Source.end l.initial.source).left (g.S.Source.end l.source).left (take l.used l.room);
  line : Lacks 10 (take l.used l.room);
  stayed : (g.S.Source.end l.source).count ≡ (g.S.Source.end l.initial.source).count;
}

abbrev pub decreases-loop-used : goal.decreases-loop-used
decreases-loop-used g l = 96 - l.used
