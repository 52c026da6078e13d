use Rattle.wb_etcd.proofs.Bodies.{Waits}
use Rattle.wb_etcd.proofs.responses.read_body.Given as goal

abbrev pub invariant-loop : goal.invariant-loop
invariant-loop l = Waits l.fn.framing l.decoder l.bytes l.content.items l.at
