use Rattle.std.proofs.Common.{refl}
use Rattle.wb_system.proofs.Untold.{nothing_told, on_err_too}
use Rattle.wb_system.proofs.listening.TcpLinksListener.TheImpl.Goals as goal

pub next-tells : goal.next-tells
next-tells g x y c = record {
  given = λ lines told. nothing_told _ lines told;
  none = λ lines told. nothing_told _ lines told;
  failed = on_err_too _ c.result refl;
  untold = λ _. refl;
  cause = c.ensures.cause;
}

pub back-tells : goal.back-tells
back-tells g x y c = record {
  came = λ lines line told is. nothing_told _ lines told;
  untold = λ _. refl;
  count = search;
}
