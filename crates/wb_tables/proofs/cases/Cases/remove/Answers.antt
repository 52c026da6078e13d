use Rattle.std.proofs.Common.{◌≡◌, map, find, Some, None, ap, sym, ◌∙◌, subst}
use Rattle.std.specs.Ordering.{nat_cmp}
use Rattle.wb_list.specs.Keyed.{has_key}
use Rattle.wb_model.specs.Tables.{has_number}
use Rattle.wb_tables.specs.Indexed.{Reports, expiry_of, has_dues, has_requests}
use Rattle.wb_tables.specs.Lives.{case_of}
use Rattle.wb_tables.specs.declared.tenancy.Report.{Report}
use Rattle.wb_tables.proofs.NumberedReports.{numbers_left}
use Rattle.wb_tables.proofs.CaseLists.{number_of}
use Rattle.wb_tables.proofs.Indexes.{removed, none_left, left_cases, left_custodied}
use Rattle.wb_tables.proofs.NotedReports.{report_is}
use Rattle.wb_tables.proofs.ReceiptTables.{given_is, given_some, receipted_left, submitted_found}
use Rattle.wb_tables.proofs.cases.Cases.remove.Goals as goal

-- where it is not there, all is as it was
pub invariant_of-self : goal.invariant_of-self
invariant_of-self c =
    let items = c.self.inside.cases.items in
    let none : find (has_key nat_cmp number_of c.args.number) items ≡ None = subst (λ n. find (has_key nat_cmp number_of n) items ≡ None) c.get.ensures.value (sym c.in_default.ensures.item) in
    let left = rw c.get.ensures.value at c.take.ensures.others in
    rw (left ∙ none_left c.args.number items none) c.self.invariant

pub returns-in_default-clause-left : goal.returns-in_default-clause-left
returns-in_default-clause-left c =
    rw (← ap (λ (r : Reports). r.items) c.self.view_is) (left_cases c.args.number c.self.inside.cases.items c.take.new.self.items (rw c.get.ensures.value at c.take.ensures.others))

-- a report has a submission
pub unreachable-requires : goal.unreachable-requires
unreachable-requires c =
    let items = c.self.inside.cases.items in
    let filed = c.in-Some.filed in
    let there = report_is c.args.number items filed (subst (λ n. find (has_key nat_cmp number_of n) items ≡ Some filed) c.get.ensures.value (sym c.take.ensures.item ∙ c.in-Some.is)) in
    let submitted = submitted_found (has_number c.args.number) (map case_of items) (case_of filed) c.self.invariant.2.submitted there in
    given_some c.as_slice.result.now filed.case.items (c.as_slice.ensures ∙ (c.trail.ensures ∙ ap (λ (r : Report). r.case.items) c.report-report.ensures)) submitted c.in_default-receipt.ensures

pub invariant_of-self-2 : goal.invariant_of-self-2
invariant_of-self-2 c =
    let items = c.self.inside.cases.items in
    let left = rw c.get.ensures.value at c.take.ensures.others in
    let cases = left_cases c.args.number items c.take.new.self.items left in
    let filed = c.in-Some.filed in
    let there = report_is c.args.number items filed (subst (λ n. find (has_key nat_cmp number_of n) items ≡ Some filed) c.get.ensures.value (sym c.take.ensures.item ∙ c.in-Some.is)) in
    let submitted = submitted_found (has_number c.args.number) (map case_of items) (case_of filed) c.self.invariant.2.submitted there in
    let is = given_is c.as_slice.result.now filed.case.items c.in-Some-receipt.digest (c.as_slice.ensures ∙ (c.trail.ensures ∙ ap (λ (r : Report). r.case.items) c.report-report.ensures)) submitted c.in-Some-receipt.ensures in
    let term = c.expiry.ensures ∙ ap (λ (r : Report). expiry_of c.self.inside.tenant (case_of r)) c.report-report.ensures in (
      rw (cases, c.remove.ensures.items, term) (removed c.self.inside.tenant (map case_of items) c.self.inside.terms.items c.self.invariant.0 c.args.number (case_of filed) there),
      left_custodied c.args.number items c.take.new.self.items left c.self.invariant.1,
      rw cases (receipted_left c.self.inside.tenant c.args.number (map case_of items) c.self.inside.receipts.items c.remove-2.new.self.items (case_of filed) c.in-Some-receipt.digest c.self.invariant.0.apart c.self.invariant.2 there is c.remove-2.ensures.found),
      rw cases (numbers_left has_requests c.args.number (map case_of items) c.self.inside.asked.items c.take-2.new.self.items (rw c.get-2.ensures.value at c.take-2.ensures.others) c.self.invariant.3),
      rw cases (numbers_left has_dues c.args.number (map case_of items) c.self.inside.due.items c.take-3.new.self.items (rw c.get-3.ensures.value at c.take-3.ensures.others) c.self.invariant.4),
    )

pub returns-clause-left : goal.returns-clause-left
returns-clause-left c =
    rw (← ap (λ (r : Reports). r.items) c.self.view_is) (left_cases c.args.number c.self.inside.cases.items c.take.new.self.items (rw c.get.ensures.value at c.take.ensures.others))
