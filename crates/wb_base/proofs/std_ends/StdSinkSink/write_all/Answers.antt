use Rattle.std.proofs.Common.{rules}
use Rattle.wb_base.proofs.StdEnds.{one_more_piece}
use Rattle.wb_base.proofs.std_ends.StdSinkSink.write_all.Goals as goal

pub loop-rest-preserved : goal.loop-rest-preserved
loop-rest-preserved g c = record {
  faults = search rules;
  written = one_more_piece _ _ _ c.args.bytes.now _ c.loop-rest.rest.now c.in-Ok.count c.loop-rest.invariant.written.1 c.loop-rest.invariant.written.2 c.in-Ok.ensures.bytes;
}
