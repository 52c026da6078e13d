use Rattle.wb_system.proofs.Untold.{read_untold}
use Rattle.wb_system.proofs.calls.CallStreamRead.TheImpl.Goals as goal

pub read-tells : goal.read-tells
read-tells g c = record {
  bound = c.ensures.bound;
  bytes = read_untold c.result _;
}
