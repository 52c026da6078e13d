use Rattle.wb_tables.proofs.PlacesAt.{place_at}
use Rattle.wb_desk.proofs.StandingPlaces.{earlier}
use Rattle.wb_desk.proofs.Tenants.{set_same}
use Rattle.wb_desk.proofs.ready.ready_at.Goals as goal

pub plan_turn-requires-clause-may_plan : goal.plan_turn-requires-clause-may_plan
plan_turn-requires-clause-may_plan c =
    let there = place_at c.requires.places.0 0 c.args.place c.args.sealed.now.items c.args.tenancies.now c.index-tenancies-place.result c.requires.places.2 c.requires.place.within in
    record {
      place = there.plain;
      few = there.requests;
      earlier = earlier c.requires.places.0 c.args.at.now.turn _ _ c.requires.places.1 there.sessions;
      named = c.requires.place.id c.index-tenancies-place.result;
      fits = c.requires.fits;
    }

pub returns-clause-tenants_left : goal.returns-clause-tenants_left
returns-clause-tenants_left c = set_same c.args.place c.args.tenancies.now c.plan_turn.new.tenancy c.index-tenancies-place.result c.requires.place.within c.plan_turn.ensures.place

pub plan_turn-requires-clause-early : goal.plan_turn-requires-clause-early
plan_turn-requires-clause-early c = (place_at c.requires.places.0 0 c.args.place c.args.sealed.now.items c.args.tenancies.now c.index-tenancies-place.result c.requires.places.2 c.requires.place.within).days
