use Rattle.std.proofs.Common.{rules, ◌≡◌, ◌-◌, arith, length, take}
use Rattle.std.proofs.lemmas.List.{length-take-le}
use Rattle.std.proofs.KnownBytes.{Consumes-trans}
use Rattle.wb_wire.proofs.RoomLemmas.{more_room}
use Rattle.wb_wire.proofs.TakingLemmas.{stopped_there}
use Rattle.wb_wire.proofs.read_frame.fill.Goals as goal

pub loop-at-preserved : goal.loop-at-preserved
loop-at-preserved g c =
    let grown = more_room c.loop-at.at c.in-Ok.size (length c.loop-at.room - c.loop-at.at) c.loop-at.room c.take_some.new.into c.loop-at.invariant.fits c.in-Ok.ensures.fits in
    record {
      fits = search rules;
      most = omega (arith, c.loop-at.invariant.most, c.in-Ok.ensures.most);
      taken = rw grown (Consumes-trans _ _ _ _ _ c.loop-at.invariant.taken c.in-Ok.ensures.ok);
      stayed = grind (arith, c.in-Ok.ensures.counts.stayed, c.loop-at.invariant.stayed);
    }

pub returns-in-Err-clause-err : goal.returns-in-Err-clause-err
returns-in-Err-clause-err g c =
    let whole : length (take c.loop-at.at c.loop-at.room) ≡ c.loop-at.at = length-take-le c.loop-at.at c.loop-at.room c.loop-at.invariant.fits in (
      take c.loop-at.at c.loop-at.room,
      search rules,
      stopped_there c.args.most c.loop-at.at _ _ _ _ _ _ (take c.loop-at.at c.loop-at.room) c.in-Err.no (omega (arith, c.loop-at.invariant.stayed)) whole c.loop-at.invariant.most c.loop-at.invariant.taken c.in-Err.ensures.err,
    )
