use Rattle.std.proofs.Common.{◌≡◌, length, take, arith}
use Rattle.std.proofs.lemmas.List.{length-take-le}
use Rattle.wb_wire.proofs.TakingLemmas.{stopped_there}
use Rattle.wb_wire.proofs.read_frame.take_line.Goals as goal

pub returns-in-Err-clause-err : goal.returns-in-Err-clause-err
returns-in-Err-clause-err g c =
    let whole : length (take c.loop-used.used c.loop-used.room) ≡ c.loop-used.used = length-take-le c.loop-used.used c.loop-used.room (omega (arith, c.loop-used.invariant.long)) in (
      take c.loop-used.used c.loop-used.room,
      c.loop-used.invariant.line,
      stopped_there c.args.most c.loop-used.used _ _ _ _ _ _ (take c.loop-used.used c.loop-used.room) c.in-Err.no (omega (arith, c.loop-used.invariant.stayed)) whole c.loop-used.invariant.most c.loop-used.invariant.taken c.in-Err.ensures.err,
    )
