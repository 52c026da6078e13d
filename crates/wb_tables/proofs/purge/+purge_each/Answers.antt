use Rattle.std.proofs.Common.{rules, map}
use Rattle.wb_tables.specs.Kept.{place_of}
use Rattle.wb_tables.proofs.Purges.{rest_places, all_purged}
use Rattle.wb_tables.proofs.purge.+purge_each.Goals as goal

pub purge_each-requires : goal.purge_each-requires
purge_each-requires t c = (search rules, (c.requires.0, (c.in-Some.tenancy.now.configuration.tenant, rest_places c.requires.0 c.requires.1.0 c.args.sealed.now.items c.purge.new.sealed.items c.args.tenancies.now c.in-Some.tenancy.now c.in-Some.rest.now c.in-Some.ensures.cases.0 c.requires.1.1 c.purge.ensures.others)))

pub returns-in-Some-clause-hosts : goal.returns-in-Some-clause-hosts
returns-in-Some-clause-hosts t c =
    all_purged c.requires.0 c.args.time c.requires.1.0 c.args.sealed.now.items c.purge.new.sealed.items c.purge_each.new.sealed.items c.args.tenancies.now c.in-Some.tenancy.now c.in-Some.rest.now (place_of c.purge.new.tenancy) (map place_of c.purge_each.new.tenancies)
    c.in-Some.ensures.cases.0 c.requires.1.1 c.purge.ensures.place c.purge.ensures.here c.purge.ensures.others c.purge_each.ensures.others c.purge_each.ensures.hosts
