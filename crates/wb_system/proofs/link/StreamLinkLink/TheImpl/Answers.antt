use Rattle.std.proofs.Common.{refl}
use Rattle.wb_system.proofs.Untold.{front_untold, on_err_too, on_ok_too, read_untold}
use Rattle.wb_system.proofs.link.StreamLinkLink.TheImpl.Goals as goal

pub read-tells : goal.read-tells
read-tells g x c = record {
  bound = c.ensures.bound;
  bytes = read_untold c.result _;
  got = refl;
  cause = c.ensures.cause;
}

pub write_all-tells : goal.write_all-tells
write_all-tells g x c = record {
  ok = on_ok_too _ c.result tt;
  err = on_err_too _ c.result (front_untold _);
  left = refl;
  cause = c.ensures.cause;
}
