use Rattle.std.proofs.Common.{◌≡◌, ◌<◌}
use Rattle.wb_front.specs.Attended.{AttendsLinks, RoseOften}
use Rattle.wb_front.proofs.worker.work.Given as goal

abbrev pub invariant-loop : goal.invariant-loop
invariant-loop g l =
    AttendsLinks (λ own frame told own'. g.G.Gate.ran own frame told own') (g.Li.Listener.end l.fn.station.listener) (g.Li.Listener.end l.station.listener) l.fn.own l.own (g.T.Ticker.end l.fn.station.ticker) (g.T.Ticker.end l.station.ticker)
    × RoseOften l.failed (g.Li.Listener.end l.fn.station.listener).count (g.Li.Listener.end l.station.listener).count
    × (l.failed < 16)
    × (g.G.Gate.parts l.own ≡ g.G.Gate.parts l.fn.own)
    × g.G.Gate.of l.gate l.own
