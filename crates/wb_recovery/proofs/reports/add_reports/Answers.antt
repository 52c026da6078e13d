use Rattle.std.proofs.Common.{◌≡◌, true, List, map, sym, ap, ◌∙◌, subst, arith}
use Rattle.std.specs.List.{AllByRecursion, list_all}
use Rattle.wb_rows.specs.Reports.{Report, case_report}
use Rattle.wb_rows.specs.TrailRule.{is_legal_report}
use Rattle.wb_tables.specs.Kept.{place_of}
use Rattle.wb_recovery.specs.HeldPlaces.{AreToCome, with_reports}
use Rattle.wb_recovery.proofs.KeptReports.{Rise, still_rise, all_still_come, found_below, found_own, legal_left, reports_step, none_left, none_of}
use Rattle.wb_recovery.proofs.reports.add_reports.Goals as goal

pub add_report-requires-clause-above : goal.add_report-requires-clause-above
add_report-requires-clause-above c = λ x found.
    let ps = map place_of c.loop-item.tenancies in
    let rest = map case_report c.next.new.self.rest.items in
    let split = ap (map case_report) c.in-Some.ensures.steps.0 in
    found_below (case_report c.in-Some.item) rest ps x (subst (λ (l : List Report). AllByRecursion (AreToCome l) ps) split c.loop-item.invariant.to_come) found

pub add_report-requires-clause-own : goal.add_report-requires-clause-own
add_report-requires-clause-own c = λ x found.
    let ps = map place_of c.loop-item.tenancies in
    let rest = map case_report c.next.new.self.rest.items in
    let split = ap (map case_report) c.in-Some.ensures.steps.0 in
    found_own (case_report c.in-Some.item) rest ps x (subst (λ (l : List Report). AllByRecursion (AreToCome l) ps) split c.loop-item.invariant.to_come) found

pub loop-item-preserved : goal.loop-item-preserved
loop-item-preserved c =
    let was = c.loop-item.invariant in
    let ps = map place_of c.loop-item.tenancies in
    let r = case_report c.in-Some.item in
    let rest = map case_report c.next.new.self.rest.items in
    let split = ap (map case_report) c.in-Some.ensures.steps.0 in
    let made = c.in_ok-add_report.ensures in
    record {
      ids = subst (Rise 0) (sym made) (still_rise r 0 ps was.ids);
      to_come = subst (AllByRecursion (AreToCome rest)) (sym made) (all_still_come r rest ps (subst (λ (l : List Report). AllByRecursion (AreToCome l) ps) split was.to_come));
      legal = (was.legal.0, legal_left was.legal.0 r rest (subst (λ (l : List Report). list_all (is_legal_report was.legal.0) l ≡ true) split was.legal.1));
      places = ap (map (with_reports rest)) made ∙ (sym (reports_step r rest ps) ∙ (ap (λ (l : List Report). map (with_reports l) ps) (sym split) ∙ was.places));
    }

pub returns : goal.returns
returns c =
    let ps = map place_of c.loop-item.tenancies in
    sym (none_left ps) ∙ (ap (λ (l : List Report). map (with_reports l) ps) (sym (ap (map case_report) (none_of c.loop-item.item-iterator.rest.items (omega (arith, c.loop-item.item-iterator.rest.ok, c.in-None.ensures.steps.0))))) ∙ c.loop-item.invariant.places)
