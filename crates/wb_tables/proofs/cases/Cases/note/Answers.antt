use Rattle.std.proofs.Common.{◌≡◌, map, find, Some, sym, ap, ◌∙◌, subst}
use Rattle.std.specs.Ordering.{nat_cmp}
use Rattle.wb_list.specs.Keyed.{has_key}
use Rattle.wb_tables.specs.Indexed.{Reports, IsIndexed, AreCustodied, AreNumbersOf, has_dues, has_requests}
use Rattle.wb_tables.specs.Lives.{case_of}
use Rattle.wb_tables.specs.Receipted.{AreReceipted}
use Rattle.wb_tables.proofs.NumberedReports.{has_requests_is, numbers_noted}
use Rattle.wb_tables.proofs.CaseLists.{number_of}
use Rattle.wb_tables.proofs.NotedReports.{before_there, after_free, noted_cases, noted_index, noted_custodied}
use Rattle.wb_tables.proofs.ReceiptTables.{receipted_noted}
use Rattle.wb_tables.proofs.cases.Cases.note.Goals as goal

pub move_term-requires-clause-there : goal.move_term-requires-clause-there
move_term-requires-clause-there c =
    let made = c.change-noted.ensures.changed in
    let found = subst (λ n. find (has_key nat_cmp number_of n) c.self.inside.cases.items ≡ Some made.0) c.get.ensures.value made.2 in
    before_there c.self.inside.tenant c.args.number c.self.inside.cases.items c.self.inside.terms.items made.0 c.change-noted.result.before c.self.invariant.0 found made.4.before_is

pub move_term-requires-clause-free : goal.move_term-requires-clause-free
move_term-requires-clause-free c = λ ne.
    let made = c.change-noted.ensures.changed in
    let found = subst (λ n. find (has_key nat_cmp number_of n) c.self.inside.cases.items ≡ Some made.0) c.get.ensures.value made.2 in
    after_free c.self.inside.tenant c.args.number c.self.inside.cases.items c.self.inside.terms.items made.0 c.change-noted.result.before c.change-noted.result.after c.self.invariant.0 found made.4.before_is ne

pub invariant_of-self : goal.invariant_of-self
invariant_of-self c =
    let made = c.change-noted.ensures.changed in
    let found = subst (λ n. find (has_key nat_cmp number_of n) c.self.inside.cases.items ≡ Some made.0) c.get.ensures.value made.2 in (
      subst (λ cs. IsIndexed c.self.inside.tenant (map case_of cs) c.move_term.new.terms.items) (sym made.5)
          (noted_index c.self.inside.tenant c.args.number c.args.entry c.self.inside.cases.items c.self.inside.terms.items c.move_term.new.terms.items made.0 made.1 c.change-noted.result c.self.invariant.0 c.change-noted.ensures.ascending found made.3 made.4 c.move_term.ensures),
      subst AreCustodied (sym made.5) (noted_custodied c.args.number c.args.entry c.self.inside.cases.items made.0 made.1 c.change-noted.result c.self.invariant.1 found made.4),
      subst (λ cs. AreReceipted c.self.inside.tenant cs c.self.inside.receipts.items) (sym (ap (map case_of) made.5 ∙ noted_cases c.args.number c.args.entry c.self.inside.cases.items made.0 made.1 c.change-noted.ensures.ascending found made.3 made.4.items))
          (receipted_noted c.self.inside.tenant c.args.number c.args.entry (map case_of c.self.inside.cases.items) c.self.inside.receipts.items c.requires.ready.later c.self.invariant.2),
      subst (λ cs. AreNumbersOf has_requests (map case_of cs) c.put_where.new.index.items) (sym made.5)
          (numbers_noted has_requests c.args.number c.self.inside.cases.items c.self.inside.asked.items c.put_where.new.index.items made.0 made.1 c.change-noted.result.has_requests c.self.invariant.3 c.change-noted.ensures.ascending found made.3
          (has_requests_is c.args.number c.args.entry c.self.inside.cases.items made.0 made.1 c.change-noted.result c.self.invariant.1 found made.4) c.put_where.ensures.items),
      subst (λ cs. AreNumbersOf has_dues (map case_of cs) c.put_where-2.new.index.items) (sym made.5)
          (numbers_noted has_dues c.args.number c.self.inside.cases.items c.self.inside.due.items c.put_where-2.new.index.items made.0 made.1 c.change-noted.result.has_dues c.self.invariant.4 c.change-noted.ensures.ascending found made.3 made.4.due_is c.put_where-2.ensures.items),
    )

pub returns-clause-cases : goal.returns-clause-cases
returns-clause-cases c =
    let made = c.change-noted.ensures.changed in
    let found = subst (λ n. find (has_key nat_cmp number_of n) c.self.inside.cases.items ≡ Some made.0) c.get.ensures.value made.2 in
    rw (← ap (λ (r : Reports). r.items) c.self.view_is) (ap (map case_of) made.5 ∙ noted_cases c.args.number c.args.entry c.self.inside.cases.items made.0 made.1 c.change-noted.ensures.ascending found made.3 made.4.items)
