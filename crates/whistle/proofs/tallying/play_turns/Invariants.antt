use Rattle.std.proofs.Common.{◌≤◌}
use Rattle.wb_tables.specs.Standing.{hosts_of}
use Rattle.whistle.proofs.PlayedTurns.{SoFar}
use Rattle.whistle.proofs.tallying.play_turns.Given as goal

abbrev pub invariant-loop-before : goal.invariant-loop-before
invariant-loop-before g l = record {
  so_far : SoFar (g.K.Keeper.end l.fn.keeper) (g.K.Keeper.end l.keeper) (hosts_of l.desk) l.statuses.items l.before;
  few : l.desk.turns ≤ l.before;
  back : (g.K.Keeper.end l.keeper).honest → (g.K.Keeper.end l.fn.keeper).honest;
}
