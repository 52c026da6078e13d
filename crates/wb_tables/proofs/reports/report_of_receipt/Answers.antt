use Rattle.std.specs.Option.{option_copied}
use Rattle.wb_tables.proofs.Lookups.{receipt_kept, living_found, living_custodied}
use Rattle.wb_tables.proofs.reports.report_of_receipt.Goals as goal

pub returns-clause-found : goal.returns-clause-found
returns-clause-found c = living_found c.today_at.result c.with_receipt.result c.living.result c.living.ensures
    (receipt_kept c.args.tenancy.now c.args.time c.args.digest.now c.today_at.result (option_copied c.with_receipt.result) c.requires.place.receipts c.today_at.ensures c.with_receipt.ensures.found)

pub returns-clause-custodied : goal.returns-clause-custodied
returns-clause-custodied c = living_custodied c.today_at.result c.with_receipt.result c.living.result c.living.ensures c.with_receipt.ensures.custodied
