use Rattle.std.proofs.Common.{refl}
use Rattle.wb_system.proofs.Untold.{nothing_told}
use Rattle.wb_system.proofs.dialing.TcpDialDial.TheImpl.Goals as goal

pub dial-tells : goal.dial-tells
dial-tells g x y c = record {
  given = λ dialed told. nothing_told _ dialed told;
  refused = λ dialed told. nothing_told _ dialed told;
  after = λ dialed told. nothing_told _ dialed told;
  untold = λ _. refl;
  cause = c.ensures.cause;
}

pub close-tells : goal.close-tells
close-tells g x y c = record {
  after = λ dialed line told out is. nothing_told _ dialed told;
  untold = λ _. refl;
  count = search;
}
