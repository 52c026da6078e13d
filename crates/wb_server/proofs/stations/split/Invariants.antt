use Rattle.std.proofs.Common.{◌≡◌, ◌<◌, ◌≤◌, ◌+◌, All, vec_len, vec_capacity}
use Rattle.wb_desk.specs.Hosted.{fresh}
use Rattle.wb_server.proofs.stations.split.Given as goal

abbrev pub invariant-loop-passes : goal.invariant-loop-passes
invariant-loop-passes g l = record {
  some : 0 < l.all.parts;
  turns : l.all.turns ≡ 0;
  numbers : l.all.numbers ≡ 0;
  many : vec_len l.passes + l.all.parts ≡ l.fn.all.parts;
  room : l.fn.all.parts ≤ vec_capacity l.passes;
  capacity : vec_capacity l.passes ≡ vec_capacity l.fn.passes;
  done : All (λ p. p ≡ fresh) l.passes.items;
}

abbrev pub decreases-loop-passes : goal.decreases-loop-passes
decreases-loop-passes g l = l.all.parts
