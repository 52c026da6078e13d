use Rattle.std.specs.Option.{option_copied}
use Rattle.wb_tables.proofs.Lookups.{report_kept, living_found, living_custodied}
use Rattle.wb_tables.proofs.reports.live_report.Goals as goal

pub returns-clause-found : goal.returns-clause-found
returns-clause-found c = living_found c.today_at.result c.find.result c.living.result c.living.ensures
    (report_kept c.args.tenancy.now c.args.time c.args.number c.today_at.result (option_copied c.find.result) c.requires.place.cases c.today_at.ensures c.find.ensures.found)

pub returns-clause-custodied : goal.returns-clause-custodied
returns-clause-custodied c = living_custodied c.today_at.result c.find.result c.living.result c.living.ensures c.find.ensures.custodied
