use Rattle.wb_base.proofs.StdEnds.{one_more_piece}
use Rattle.wb_system.proofs.transfer.send_all.Goals as goal

pub loop-rest-preserved : goal.loop-rest-preserved
loop-rest-preserved g c = one_more_piece _ _ _ c.args.bytes.now _ c.loop-rest.rest.now c.in_ok-count.count c.loop-rest.invariant.1 c.loop-rest.invariant.2 c.in_ok-count.ensures.bytes
