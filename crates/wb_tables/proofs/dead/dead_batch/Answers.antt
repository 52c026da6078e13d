use Rattle.std.proofs.Common.{[], map, sym, ap, ◌∙◌, subst, arith}
use Rattle.wb_tables.specs.Dead.{has_dead}
use Rattle.wb_tables.specs.Kept.{place_of, plain_of}
use Rattle.wb_tables.specs.Places.{IsLookedUp}
use Rattle.wb_tables.specs.declared.tenancy.Tenancy.{Tenancy as KeptTenancy}
use Rattle.wb_tables.proofs.DeadNumbers.{any_err, any_at, IsBatched, batched_at, batched_done, batched_none, batched_rows, good_drops}
use Rattle.wb_tables.proofs.PlacesAt.{place_at}
use Rattle.wb_tables.proofs.dead.dead_batch.Goals as goal

pub push_tenant-requires : goal.push_tenant-requires
push_tenant-requires c = record {
  place = subst (λ (x : KeptTenancy). IsLookedUp (plain_of x)) (sym c.tenancy-item.is)
      (place_at c.requires.places.0 0 c.loop-tenancy.tenancy-index c.requires.places.1 c.args.tenancies.now c.tenancy-item.result c.requires.places.2 c.loop-tenancy-test.true).plain;
}

pub returns-in_err-push_tenant-clause-err : goal.returns-in_err-push_tenant-clause-err
returns-in_err-push_tenant-clause-err c =
    any_err c.from_residual.result (any_at (λ x. has_dead c.args.time x.plain) place_of c.loop-tenancy.tenancy-index c.args.tenancies.now c.tenancy-item.result c.loop-tenancy-test.true
    (ap (λ (x : KeptTenancy). has_dead c.args.time (plain_of x)) (sym c.tenancy-item.is) ∙ c.in_err-push_tenant.ensures.err))

pub loop-tenancy-preserved : goal.loop-tenancy-preserved
loop-tenancy-preserved c =
    batched_at c.args.time c.loop-tenancy.tenancy-index c.args.tenancies.now c.tenancy-item.result c.loop-tenancy.batch.items c.push_tenant.new.batch.items c.loop-tenancy-test.true c.tenancy-item.is c.loop-tenancy.invariant c.in_ok-push_tenant.ensures.ok

done : (c : goal.After-loop-tenancy) → IsBatched c.args.time (map place_of c.args.tenancies.now) [] c.loop-tenancy.batch.items
done c = batched_done c.args.time c.loop-tenancy.tenancy-index c.args.tenancies.now c.loop-tenancy.batch.items (omega (arith, c.loop-tenancy-test.false)) c.loop-tenancy.invariant

pub returns-clause-rows : goal.returns-clause-rows
returns-clause-rows c = λ items. batched_rows c.requires.places.0 c.args.time c.requires.places.1 items (map place_of c.args.tenancies.now) c.loop-tenancy.batch.items c.requires.places.2 (done c)

pub returns-clause-good : goal.returns-clause-good
returns-clause-good c = good_drops c.loop-tenancy.batch.items (done c).only

pub returns-clause-none : goal.returns-clause-none
returns-clause-none c = batched_none c.args.time (map place_of c.args.tenancies.now) c.loop-tenancy.batch.items (done c)
