use Rattle.wb_system.proofs.Untold.{write_untold}
use Rattle.wb_system.proofs.calls.CallStreamWrite.TheImpl.Goals as goal

pub write-tells : goal.write-tells
write-tells g c = record {
  bound = c.ensures.bound;
  bytes = write_untold c.result c.args.buf.now;
}
