use Rattle.std.proofs.Common.{ap, ◌∙◌}
use Rattle.wb_recovery.proofs.KeptReports.{legal_submitted}
use Rattle.wb_tables.specs.Receipted.{is_submitted}
use Rattle.wb_tables.specs.declared.tenancy.Report.{Report}
use Rattle.wb_recovery.proofs.reports.add_case.Goals as goal

pub add-requires-clause-submitted : goal.add-requires-clause-submitted
add-requires-clause-submitted c = ap (λ (r : Report). is_submitted r.case.items) c.in_ok-filed.ensures ∙ legal_submitted c.requires.legal.0 c.args.item.case.items c.requires.legal.1
