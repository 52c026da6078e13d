use Rattle.std.proofs.Common.{◌≡◌, drop, find, map}
use Rattle.wb_tables.specs.Places.{is_tenant}
use Rattle.wb_tables.specs.Kept.{place_of}
use Rattle.wb_tables.proofs.tenants.place_at.Given as goal

abbrev pub invariant-loop-at : goal.invariant-loop-at
invariant-loop-at l = find (is_tenant l.t) (map place_of (drop l.at l.tenancies)) ≡ find (is_tenant l.t) (map place_of l.tenancies)
