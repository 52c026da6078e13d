use Rattle.std.proofs.Common.{◌≡◌, List, map, find, Some, sym, ap, ◌∙◌, subst}
use Rattle.std.specs.Ordering.{nat_cmp}
use Rattle.wb_case.specs.Plans.{GivesPlan}
use Rattle.wb_list.specs.Keyed.{has_key}
use Rattle.wb_model.specs.declared.entry.Entry.{Entry}
use Rattle.wb_tables.specs.Indexed.{Reports, IsIndexed, AreCustodied, AreNumbersOf, has_dues, has_requests}
use Rattle.wb_tables.specs.Lives.{case_of}
use Rattle.wb_tables.specs.Receipted.{AreReceipted}
use Rattle.wb_tables.proofs.CaseLists.{number_of}
use Rattle.wb_tables.proofs.NotedReports.{early_found, found_there, trail_is, kept_cases, acted_ready, acted_custodied}
use Rattle.wb_tables.proofs.cases.Cases.act.Goals as goal

pub change-requires : goal.change-requires
change-requires c =
    let there = found_there c.args.number c.self.inside.cases.items (rw (← ap (λ (r : Reports). r.items) c.self.view_is) at c.requires.there) in
    let early = early_found c.args.number c.self.inside.cases.items there.0 (rw (← ap (λ (r : Reports). r.items) c.self.view_is) at c.requires.early) there.1 in
    record { there = (there.0, subst (λ n. find (has_key nat_cmp number_of n) c.self.inside.cases.items ≡ Some there.0) (sym c.get.ensures.value) there.1, c.requires.range there.0.case.items early) }

pub invariant_of-self : goal.invariant_of-self
invariant_of-self c =
    let made = c.change.ensures.changed in
    let found = subst (λ n. find (has_key nat_cmp number_of n) c.self.inside.cases.items ≡ Some made.0) c.get.ensures.value made.2 in
    let same = ap (map case_of) made.5 ∙ kept_cases c.args.number c.self.inside.cases.items made.0 made.1 c.change.ensures.ascending found made.3 made.4.items in (
      subst (λ cs. IsIndexed c.self.inside.tenant cs c.self.inside.terms.items) (sym same) c.self.invariant.0,
      subst AreCustodied (sym made.5) (acted_custodied c.args.calendar.now c.args.number c.args.at c.args.by c.args.act c.self.inside.cases.items made.0 made.1 c.change.result c.self.invariant.1 found made.4),
      subst (λ cs. AreReceipted c.self.inside.tenant cs c.self.inside.receipts.items) (sym same) c.self.invariant.2,
      subst (λ cs. AreNumbersOf has_requests cs c.self.inside.asked.items) (sym same) c.self.invariant.3,
      subst (λ cs. AreNumbersOf has_dues cs c.self.inside.due.items) (sym same) c.self.invariant.4,
    )

pub returns-clause-cases : goal.returns-clause-cases
returns-clause-cases c =
    let made = c.change.ensures.changed in
    let found = subst (λ n. find (has_key nat_cmp number_of n) c.self.inside.cases.items ≡ Some made.0) c.get.ensures.value made.2 in
    rw (← ap (λ (r : Reports). r.items) c.self.view_is) (ap (map case_of) made.5 ∙ kept_cases c.args.number c.self.inside.cases.items made.0 made.1 c.change.ensures.ascending found made.3 made.4.items)

pub returns-clause-plan : goal.returns-clause-plan
returns-clause-plan c = λ trail is.
    let made = c.change.ensures.changed in
    let found = subst (λ n. find (has_key nat_cmp number_of n) c.self.inside.cases.items ≡ Some made.0) c.get.ensures.value made.2 in
    subst (λ (es : List Entry). GivesPlan c.args.calendar.now es c.args.at c.args.by c.args.act c.change.result) (trail_is c.args.number c.self.inside.cases.items made.0 trail found (rw (← ap (λ (r : Reports). r.items) c.self.view_is) at is)) made.4.plan

pub returns-clause-ready : goal.returns-clause-ready
returns-clause-ready c =
    let made = c.change.ensures.changed in
    let found = subst (λ n. find (has_key nat_cmp number_of n) c.self.inside.cases.items ≡ Some made.0) c.get.ensures.value made.2 in
    rw made.5 (acted_ready c.args.calendar.now c.args.number c.args.at c.args.by c.args.act c.self.inside.cases.items made.0 made.1 c.change.result found made.3 made.4)
