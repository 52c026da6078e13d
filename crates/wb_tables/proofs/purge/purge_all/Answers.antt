use Rattle.std.proofs.Common.{map}
use Rattle.wb_tables.specs.Kept.{place_of}
use Rattle.wb_tables.proofs.Purges.{purged_places}
use Rattle.wb_tables.proofs.purge.purge_all.Goals as goal

pub returns-clause-places_kept : goal.returns-clause-places_kept
returns-clause-places_kept c = λ turns k all. purged_places turns c.args.time k c.args.sealed.now.items c.purge_each.new.sealed.items (map place_of c.args.tenancies.now) (map place_of c.purge_each.new.tenancies) c.purge_each.ensures.places c.purge_each.ensures.hosts all
