use Rattle.std.proofs.Common.{List, map, sym, subst}
use Rattle.wb_tables.specs.Kept.{place_of}
use Rattle.wb_tables.specs.Places.{ArePlaces}
use Rattle.wb_tables.specs.declared.tenancy.Tenancy.{Tenancy as KeptTenancy}
use Rattle.wb_desk.proofs.StandingPlaces.{places_hold}
use Rattle.wb_desk.proofs.desk.Desk.counts.Goals as goal

pub count-requires-clause-places : goal.count-requires-clause-places
count-requires-clause-places c = (
  c.self.inside.sealed.items,
  subst (λ (ks : List KeptTenancy). ArePlaces c.self.inside.turns 0 c.self.inside.sealed.items (map place_of ks)) (sym c.as_slice.ensures.value)
      (places_hold (record { turns = c.self.inside.turns; time = c.self.inside.time; tenants = map place_of c.self.inside.tenancies.items; sealed = c.self.inside.sealed.items }) c.self.invariant.past c.self.invariant.time c.self.invariant.set_up),
)
