use Rattle.std.proofs.Common.{refl}
use Rattle.wb_system.proofs.Untold.{nothing_told, on_err_too}
use Rattle.wb_system.proofs.clock.RealTickerTicker.TheImpl.Goals as goal

pub tick-tells : goal.tick-tells
tick-tells g x c = record {
  next = λ ticks told. nothing_told _ ticks told;
  failed = on_err_too _ c.result refl;
  untold = λ _. refl;
  cause = c.ensures.cause;
}
