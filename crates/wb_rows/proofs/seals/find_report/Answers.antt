use Rattle.std.proofs.Common.{ap, ◌∙◌, option_map}
use Rattle.wb_rows.specs.Reports.{case_report}
use Rattle.wb_rows.proofs.Lookups.{report_there}
use Rattle.wb_rows.proofs.seals.find_report.Goals as goal

pub returns : goal.returns
returns c = ap (option_map case_report) c.find.ensures.item ∙ report_there c.args.cases.now.items c.args.item.now.tenant c.args.item.now.number
