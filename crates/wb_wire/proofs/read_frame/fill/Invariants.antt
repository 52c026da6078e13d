use Rattle.std.proofs.Common.{◌≡◌, ◌≤◌, ◌-◌, length, take}
use Rattle.std.specs.Io.KnownBytes.{Consumes}
use Rattle.wb_wire.proofs.read_frame.fill.Given as goal

abbrev pub invariant-loop-at : goal.invariant-loop-at
invariant-loop-at g l = record {
  fits : l.at ≤ length l.room;
  most : l.at ≤ l.most;
  taken : Consumes (g.S.Source.end l.initial.source).left (g.S.Source.end l.source).left (take l.at l.room);
  stayed : (g.S.Source.end l.source).count ≡ (g.S.Source.end l.initial.source).count;
}

abbrev pub decreases-loop-at : goal.decreases-loop-at
decreases-loop-at g l = length l.room - l.at
