use Rattle.std.proofs.Common.{◌≡◌, map, find, Some, sym, ap, ◌∙◌, subst}
use Rattle.std.specs.Ordering.{nat_cmp}
use Rattle.wb_list.specs.Keyed.{has_key}
use Rattle.wb_tables.specs.Indexed.{Reports, IsIndexed, AreCustodied, AreNumbersOf, has_dues, has_requests}
use Rattle.wb_tables.specs.Lives.{case_of}
use Rattle.wb_tables.specs.Receipted.{AreReceipted}
use Rattle.wb_tables.proofs.CaseLists.{number_of}
use Rattle.wb_tables.proofs.NotedReports.{found_there, few_kept, kept_cases, moved_plan, moved_ready, moved_custodied}
use Rattle.wb_tables.proofs.cases.Cases.move_requests.Goals as goal

pub change-requires : goal.change-requires
change-requires c =
    let items = c.self.inside.cases.items in
    let there = found_there c.args.number items (rw (← ap (λ (r : Reports). r.items) c.self.view_is) at c.requires.there) in
    let few = few_kept c.args.number items there.0 c.self.invariant.1 (rw (← ap (λ (r : Reports). r.items) c.self.view_is) at c.requires.few) there.1 in
    record { there = (there.0, subst (λ n. find (has_key nat_cmp number_of n) items ≡ Some there.0) (sym c.get.ensures.value) there.1, (few, c.requires.user)) }

pub invariant_of-self : goal.invariant_of-self
invariant_of-self c =
    let made = c.change.ensures.changed in
    let found = subst (λ n. find (has_key nat_cmp number_of n) c.self.inside.cases.items ≡ Some made.0) c.get.ensures.value made.2 in
    let same = ap (map case_of) made.5 ∙ kept_cases c.args.number c.self.inside.cases.items made.0 made.1 c.change.ensures.ascending found made.3 made.4.items in (
      subst (λ cs. IsIndexed c.self.inside.tenant cs c.self.inside.terms.items) (sym same) c.self.invariant.0,
      subst AreCustodied (sym made.5) (moved_custodied c.args.number c.args.at c.args.by c.args.move_ c.self.inside.cases.items made.0 made.1 c.change.result c.self.invariant.1 found made.4),
      subst (λ cs. AreReceipted c.self.inside.tenant cs c.self.inside.receipts.items) (sym same) c.self.invariant.2,
      subst (λ cs. AreNumbersOf has_requests cs c.self.inside.asked.items) (sym same) c.self.invariant.3,
      subst (λ cs. AreNumbersOf has_dues cs c.self.inside.due.items) (sym same) c.self.invariant.4,
    )

pub returns-clause-cases : goal.returns-clause-cases
returns-clause-cases c =
    let made = c.change.ensures.changed in
    let found = subst (λ n. find (has_key nat_cmp number_of n) c.self.inside.cases.items ≡ Some made.0) c.get.ensures.value made.2 in
    rw (← ap (λ (r : Reports). r.items) c.self.view_is) (ap (map case_of) made.5 ∙ kept_cases c.args.number c.self.inside.cases.items made.0 made.1 c.change.ensures.ascending found made.3 made.4.items)

pub returns-clause-plan : goal.returns-clause-plan
returns-clause-plan c = λ trail is.
    let made = c.change.ensures.changed in
    let found = subst (λ n. find (has_key nat_cmp number_of n) c.self.inside.cases.items ≡ Some made.0) c.get.ensures.value made.2 in
    moved_plan c.args.number c.args.at c.args.by c.args.move_ c.self.inside.cases.items made.0 made.1 c.change.result trail c.self.invariant.1 found made.4 (rw (← ap (λ (r : Reports). r.items) c.self.view_is) at is)

pub returns-clause-ready : goal.returns-clause-ready
returns-clause-ready c =
    let made = c.change.ensures.changed in
    let found = subst (λ n. find (has_key nat_cmp number_of n) c.self.inside.cases.items ≡ Some made.0) c.get.ensures.value made.2 in
    rw made.5 (moved_ready c.args.number c.args.at c.args.by c.args.move_ c.self.inside.cases.items made.0 made.1 c.change.result found made.3 made.4)
