use Rattle.std.proofs.Common.{◌≡◌, List, [], Some}
use Rattle.wb_base.specs.declared.rows.Row.{Row}
use Rattle.wb_transport.specs.Dials.{Dialed}
use Rattle.wb_etcd.specs.Holding.{ReadsAll}
use Rattle.wb_etcd.proofs.taking.read_rows.Given as goal

-- what is read from here on is what all rows are
abbrev pub invariant-loop : goal.invariant-loop
invariant-loop g l = (x : Dialed) → (g.D.Dial.end l.fn.dial).told ≡ Some x → (y : Dialed) × ((g.D.Dial.end l.dial).told ≡ Some y) × ((z : Dialed) (all : List Row) → ReadsAll l.endpoints l.prefix l.revision y z l.rows.items all → ReadsAll l.endpoints l.prefix l.revision x z [] all)
