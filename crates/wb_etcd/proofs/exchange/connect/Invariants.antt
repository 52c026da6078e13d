use Rattle.std.proofs.Common.{◌≡◌, Some, drop}
use Rattle.wb_transport.specs.Dials.{Dialed}
use Rattle.wb_etcd.specs.Exchanges.{connection}
use Rattle.wb_etcd.proofs.exchange.connect.Given as goal

-- no endpoint before gave a link, and those that are left give what all of them give
abbrev pub invariant-loop-endpoint : goal.invariant-loop-endpoint
invariant-loop-endpoint g l = record {
  none : (x : Dialed) → (g.D.Dial.end l.fn.dial).told ≡ Some x → (g.D.Dial.end l.dial).told ≡ Some x;
  left : (x : Dialed) → (g.D.Dial.end l.fn.dial).told ≡ Some x → connection l.endpoints x ≡ connection (drop l.endpoint-index l.endpoints) x;
}
