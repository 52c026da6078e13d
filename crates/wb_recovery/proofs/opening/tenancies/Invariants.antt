use Rattle.std.proofs.Common.{◌≡◌, take, map}
use Rattle.wb_tables.specs.Kept.{place_of}
use Rattle.wb_recovery.specs.HeldPlaces.{bare, held_place}
use Rattle.wb_recovery.proofs.opening.tenancies.Given as goal

abbrev pub invariant-loop-item : goal.invariant-loop-item
invariant-loop-item l = map place_of l.tenancies.items ≡ map (λ x. held_place (bare l.registry.lists l.numberings) x.tenant) (take l.item-index l.item-items)
