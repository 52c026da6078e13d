use Rattle.std.proofs.Common.{sym, subst}
use Rattle.wb_wire.specs.SetupReading.{TookSetup}
use Rattle.whistle.proofs.OpeningLemmas.{if_err, none_opened}
use Rattle.whistle.proofs.opening.open.Goals as goal

pub returns-clause-err : goal.returns-clause-err
returns-clause-err g c =
    let took = subst (TookSetup (g.S.Source.end c.args.source.now).left (g.S.Source.end c.setup.new.source).left) (sym c.deref.ensures.value) c.in-Ok.ensures.ok in
    if_err c.open_by.result
    (λ status both. none_opened (g.K.Keeper.end c.args.keeper.now) (g.K.Keeper.end c.open_by.new.keeper) (g.S.Source.end c.args.source.now) (g.S.Source.end c.setup.new.source) status c.deref.result.now took both)
    c.open_by.ensures.err
