use Rattle.std.proofs.Common.{◌≡◌, List, length}
use Rattle.wb_front.specs.Served.{Exchange, sides_at}
use Rattle.wb_front.specs.Endings.{IsOpenYet}
use Rattle.wb_front.proofs.connection.serve_connection.Given as goal

abbrev pub invariant-loop-before : goal.invariant-loop-before
invariant-loop-before g l =
    ((xs : List Exchange) × IsOpenYet (λ own frame told own'. g.G.Gate.ran own frame told own')
    (sides_at (g.L.Link.end l.fn.link) (g.T.Ticker.end l.fn.ticker) l.fn.own)
    (sides_at (g.L.Link.end l.link) (g.T.Ticker.end l.ticker) l.own) xs l.inbox × (length xs ≡ l.before))
    × (g.G.Gate.parts l.own ≡ g.G.Gate.parts l.fn.own) × g.G.Gate.of l.gate l.own × ((g.L.Link.end l.link).count ≡ (g.L.Link.end l.fn.link).count) × ((g.T.Ticker.end l.ticker).count ≡ (g.T.Ticker.end l.fn.ticker).count)
