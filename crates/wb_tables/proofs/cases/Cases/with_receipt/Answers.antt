use Rattle.std.proofs.Common.{option_map, map, ap, sym, ◌∙◌}
use Rattle.std.specs.Option.{option_copied}
use Rattle.std.specs.Ordering.{nat_cmp}
use Rattle.wb_list.specs.Keyed.{has_key}
use Rattle.wb_model.specs.Tables.{report}
use Rattle.wb_tables.specs.Indexed.{Reports}
use Rattle.wb_tables.specs.Lives.{case_of}
use Rattle.wb_tables.proofs.CaseLists.{number_of, report-found}
use Rattle.wb_tables.proofs.NotedReports.{custodied_some}
use Rattle.wb_tables.proofs.ReceiptTables.{receipted_found, receipted_none}
use Rattle.wb_tables.proofs.cases.Cases.with_receipt.Goals as goal

pub returns-clause-found : goal.returns-clause-found
returns-clause-found c = rw (← ap (λ (r : Reports). r.items) c.self.view_is)
    (ap (option_map case_of) (c.report_in.ensures ∙ c.find-2.ensures.item)
    ∙ (sym (report-found _ c.self.inside.cases.items)
    ∙ (ap (λ n. report n (map case_of c.self.inside.cases.items)) c.get.ensures.value
    ∙ receipted_found c.self.inside.tenant c.in_ok-number.number c.args.digest.now (map case_of c.self.inside.cases.items) c.self.inside.receipts.items c.self.invariant.0.apart c.self.invariant.2 (sym c.in_ok-number.was ∙ c.find.ensures))))

pub returns-clause-custodied : goal.returns-clause-custodied
returns-clause-custodied c = custodied_some (has_key nat_cmp number_of _) c.self.inside.cases.items c.report_in.result c.self.invariant.1 (c.report_in.ensures ∙ c.find-2.ensures.item)

pub returns-in_err-number-clause-found : goal.returns-in_err-number-clause-found
returns-in_err-number-clause-found c = rw (← ap (λ (r : Reports). r.items) c.self.view_is)
    (ap (λ o. option_map case_of (option_copied o)) c.from_residual.ensures
    ∙ sym (receipted_none c.self.inside.tenant c.args.digest.now (map case_of c.self.inside.cases.items) c.self.inside.receipts.items c.self.invariant.2 (sym c.in_err-number.was ∙ c.find.ensures)))
