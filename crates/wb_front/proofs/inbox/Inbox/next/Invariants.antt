use Rattle.std.proofs.Common.{◌≡◌, ◌-◌, length}
use Rattle.wb_front.specs.Arrivals.{Flows}
use Rattle.wb_front.proofs.inbox.Inbox.next.Given as goal

abbrev pub invariant-loop-size : goal.invariant-loop-size
invariant-loop-size g l = Flows l.fn.self (g.L.Link.end l.fn.link).left l.self (g.L.Link.end l.link).left × ((g.L.Link.end l.link).got ≡ (g.L.Link.end l.fn.link).got) × ((g.L.Link.end l.link).count ≡ (g.L.Link.end l.fn.link).count)

abbrev pub decreases-loop-size : goal.decreases-loop-size
decreases-loop-size g l = 270_336 - length l.self
