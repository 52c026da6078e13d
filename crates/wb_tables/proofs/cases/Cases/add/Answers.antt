use Rattle.std.proofs.Common.{◌≡◌, ◌<◌, ◌++◌, ◌==◌, ◌&&◌, ◌∷◌, [], ℕ, List, length, map, find, Some, None, not, cond, sym, ap, ◌∙◌, subst}
use Rattle.wb_access.specs.Receipts.{number_of}
use Rattle.wb_base.specs.Secrets.{same_digest}
use Rattle.wb_base.specs.declared.words.Digest.{Digest}
use Rattle.wb_model.specs.Opened.{AtMost}
use Rattle.wb_tables.specs.Indexed.{Reports, IsIndexed, AreCustodied, AreNumbersOf, expiry_of, has_dues, has_requests, number_where}
use Rattle.wb_tables.specs.Lives.{case_of}
use Rattle.wb_tables.specs.Receipted.{AreReceipted, HasOwnReceipt}
use Rattle.wb_tables.specs.declared.tenancy.Report.{Report}
use Rattle.wb_terms.specs.Index.{same_term}
use Rattle.wb_terms.specs.declared.term_index.Term.{Term}
use Rattle.wb_tables.proofs.NumberedReports.{numbers_more}
use Rattle.wb_tables.proofs.CaseLists.{absent_above, insert_above, map_push}
use Rattle.wb_tables.proofs.Indexes.{free_term, indexed_more}
use Rattle.wb_tables.proofs.NotedReports.{custodied_pushed}
use Rattle.wb_tables.proofs.ReceiptTables.{begun_by, free_receipt, given_is, given_some, receipted_more}
use Rattle.wb_tables.proofs.cases.Cases.add.Goals as goal

pub unreachable-requires : goal.unreachable-requires
unreachable-requires c = given_some c.as_slice.result.now c.args.filed.case.items (c.as_slice.ensures ∙ (c.trail.ensures ∙ ap (λ (r : Report). r.case.items) c.report-report.ensures)) c.requires.submitted c.in_default.ensures

above : (c : goal.After-add-arg-1) → (last : ℕ) × (AtMost last (map case_of c.self.inside.cases.items) × (last < c.args.filed.number))
above c = rw (← ap (λ (r : Reports). r.items) c.self.view_is) at c.requires.above

pub add-requires-clause-free : goal.add-requires-clause-free
add-requires-clause-free c = let a = above c in absent_above a.0 c.args.filed.number c.self.inside.cases.items a.1.0 a.1.1

pub add-requires-2-clause-free : goal.add-requires-2-clause-free
add-requires-2-clause-free c =
    let a : (last : ℕ) × (AtMost last (map case_of c.self.inside.cases.items) × (last < c.args.filed.number)) = rw (← ap (λ (r : Reports). r.items) c.self.view_is) at c.requires.above in
    rw c.expiry-term.ensures (subst (λ (r : Report). find (same_term (expiry_of c.self.inside.tenant (case_of r))) c.self.inside.terms.items ≡ None) (sym c.report-report.ensures)
    (free_term c.self.inside.tenant a.0 (map case_of c.self.inside.cases.items) c.self.inside.terms.items (case_of c.args.filed) c.self.invariant.0 a.1.0 a.1.1))

pub add-requires-3-clause-free : goal.add-requires-3-clause-free
add-requires-3-clause-free c =
    let own : HasOwnReceipt c.args.filed.case.items (map case_of c.self.inside.cases.items) = rw (← ap (λ (r : Reports). r.items) c.self.view_is) at c.requires.own in
    free_receipt c.self.inside.tenant (map case_of c.self.inside.cases.items) c.self.inside.receipts.items c.in-Some.digest c.args.filed.case.items c.self.invariant.2 (given_is c.as_slice.result.now c.args.filed.case.items c.in-Some.digest (c.as_slice.ensures ∙ (c.trail.ensures ∙ ap (λ (r : Report). r.case.items) c.report-report.ensures)) c.requires.submitted c.in-Some.ensures) own

pub invariant_of-self : goal.invariant_of-self
invariant_of-self c =
    let a : (last : ℕ) × (AtMost last (map case_of c.self.inside.cases.items) × (last < c.args.filed.number)) = rw (← ap (λ (r : Reports). r.items) c.self.view_is) at c.requires.above in
    let own : HasOwnReceipt c.args.filed.case.items (map case_of c.self.inside.cases.items) = rw (← ap (λ (r : Reports). r.items) c.self.view_is) at c.requires.own in
    let more : c.add.new.self.items ≡ c.self.inside.cases.items ++ c.args.filed ∷ [] = c.add.ensures.items ∙ insert_above a.0 c.self.inside.cases.items c.args.filed a.1.0 a.1.1 in (
      subst (λ (cs : List _). IsIndexed c.self.inside.tenant cs c.add-2.new.self.items) (sym (ap (map case_of) more ∙ map_push c.self.inside.cases.items c.args.filed))
          (indexed_more c.self.inside.tenant a.0 (map case_of c.self.inside.cases.items) c.self.inside.terms.items c.add-2.new.self.items (case_of c.args.filed) c.self.invariant.0 a.1.0 a.1.1 (begun_by c.args.filed.case.items c.requires.submitted) (subst (λ (r : Report). (u : Term) → find (same_term u) c.add-2.new.self.items ≡ cond (same_term u (expiry_of c.self.inside.tenant (case_of r))) (Some (expiry_of c.self.inside.tenant (case_of r))) (find (same_term u) c.self.inside.terms.items)) c.report-report.ensures (rw c.expiry-term.ensures at c.add-2.ensures.found))),
      subst AreCustodied (sym more) (custodied_pushed c.self.inside.cases.items c.args.filed c.self.invariant.1 c.requires.custodied),
      subst (λ (cs : List _). AreReceipted c.self.inside.tenant cs c.add-3.new.self.items) (sym (ap (map case_of) more ∙ map_push c.self.inside.cases.items c.args.filed))
          (receipted_more c.self.inside.tenant (map case_of c.self.inside.cases.items) c.self.inside.receipts.items c.add-3.new.self.items (case_of c.args.filed) c.in-Some.digest c.self.invariant.2 (given_is c.as_slice.result.now c.args.filed.case.items c.in-Some.digest (c.as_slice.ensures ∙ (c.trail.ensures ∙ ap (λ (r : Report). r.case.items) c.report-report.ensures)) c.requires.submitted c.in-Some.ensures) own c.requires.submitted
          (subst (λ (r : Report). (t : ℕ) (e : Digest) → number_of t e c.add-3.new.self.items ≡ cond ((c.self.inside.tenant == t) && same_digest c.in-Some.digest e) (Some r.number) (number_of t e c.self.inside.receipts.items)) c.report-report.ensures c.add-3.ensures.found)),
      subst (λ (cs : List _). AreNumbersOf has_requests cs c.put_where.new.index.items) (sym (ap (map case_of) more ∙ map_push c.self.inside.cases.items c.args.filed))
          (numbers_more has_requests a.0 (map case_of c.self.inside.cases.items) c.self.inside.asked.items c.put_where.new.index.items c.args.filed _ c.self.invariant.3 a.1.0 a.1.1
          (ap (λ k. not (k == 0)) (c.len-has_requests.ensures ∙ (ap (λ (r : Report). length r.desk.items) c.report-report.ensures ∙ ap length c.requires.custodied)))
          (subst (λ (r : Report). c.put_where.new.index.items ≡ number_where (not (c.len-has_requests.result == 0)) r.number c.self.inside.asked.items) c.report-report.ensures c.put_where.ensures.items)),
      subst (λ (cs : List _). AreNumbersOf has_dues cs c.put_where-2.new.index.items) (sym (ap (map case_of) more ∙ map_push c.self.inside.cases.items c.args.filed))
          (numbers_more has_dues a.0 (map case_of c.self.inside.cases.items) c.self.inside.due.items c.put_where-2.new.index.items c.args.filed c.has_dues-has_dues.result c.self.invariant.4 a.1.0 a.1.1
          (c.has_dues-has_dues.ensures ∙ ap (λ (r : Report). has_dues (case_of r)) c.report-report.ensures)
          (subst (λ (r : Report). c.put_where-2.new.index.items ≡ number_where c.has_dues-has_dues.result r.number c.self.inside.due.items) c.report-report.ensures c.put_where-2.ensures.items)),
    )

pub returns-clause-items : goal.returns-clause-items
returns-clause-items c =
    let a : (last : ℕ) × (AtMost last (map case_of c.self.inside.cases.items) × (last < c.args.filed.number)) = rw (← ap (λ (r : Reports). r.items) c.self.view_is) at c.requires.above in
    rw (← ap (λ (r : Reports). r.items) c.self.view_is) (c.add.ensures.items ∙ insert_above a.0 c.self.inside.cases.items c.args.filed a.1.0 a.1.1)
