use Rattle.std.proofs.Common.{sym, subst}
use Rattle.wb_commands.specs.Plans.{IsFit}
use Rattle.wb_tables.specs.declared.tenancy.Tenancy.{Tenancy as KeptTenancy}
use Rattle.wb_desk.proofs.TurnRows.{batch_made}
use Rattle.wb_desk.proofs.ready.batch_at.Goals as goal

pub rows-requires : goal.rows-requires
rows-requires c = record { fit = (c.args.time, subst (λ (x : KeptTenancy). IsFit c.args.time x c.args.change.now) (sym c.index-tenancies-place.is) (c.requires.room.1 c.index-tenancies-place.result).fit) }

pub returns : goal.returns
returns c = λ d. batch_made c.args.time c.args.place c.args.tenancies.now c.index-tenancies-place.result d c.args.change.now c.in_ok-batch.batch.items c.rows.new.batch.items c.requires.within c.index-tenancies-place.is (c.requires.room.1 d).fit
    (λ items. c.in_ok-batch.ensures.rows items) c.in_ok-batch.ensures.good c.in_ok-batch.ensures.none c.in_ok-rows.ensures
