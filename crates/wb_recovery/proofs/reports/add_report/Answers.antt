use Rattle.std.proofs.Common.{◌≡◌, map, find, None, sym, ◌∙◌, subst}
use Rattle.std.specs.Prelude.{slice_index_or}
use Rattle.wb_rows.specs.Reports.{case_report}
use Rattle.wb_tables.specs.Kept.{place_of}
use Rattle.wb_tables.specs.Places.{is_tenant}
use Rattle.wb_recovery.proofs.KeptReports.{place_found, report_set, none_same, on_ok}
use Rattle.wb_recovery.proofs.reports.add_report.Goals as goal

pub add_case-requires-clause-above : goal.add_case-requires-clause-above
add_case-requires-clause-above c =
    let d = c.index-tenancies-at.result in
    let at = c.in-Some.ensures in
    c.requires.above (place_of (slice_index_or c.args.tenancies.now c.in-Some.at d)) (place_found 0 c.args.item.tenant c.in-Some.at c.args.tenancies.now d c.requires.ids at.within (at.id d ∙ c.id.ensures.value))

pub add_case-requires-clause-own : goal.add_case-requires-clause-own
add_case-requires-clause-own c =
    let d = c.index-tenancies-at.result in
    let at = c.in-Some.ensures in
    c.requires.own (place_of (slice_index_or c.args.tenancies.now c.in-Some.at d)) (place_found 0 c.args.item.tenant c.in-Some.at c.args.tenancies.now d c.requires.ids at.within (at.id d ∙ c.id.ensures.value))

pub returns-in-Some : goal.returns-in-Some
returns-in-Some c =
    let d = c.index-tenancies-at.result in
    let at = c.in-Some.ensures in
    on_ok c.add_case.result (λ made. report_set 0 c.in-Some.at c.args.tenancies.now c.add_case.new.tenancy d (case_report c.args.item) c.requires.ids at.within (at.id d ∙ c.id.ensures.value) made) c.add_case.ensures

pub returns-in-None : goal.returns-in-None
returns-in-None c = sym (none_same (case_report c.args.item) (map place_of c.args.tenancies.now) (subst (λ t. find (is_tenant t) (map place_of c.args.tenancies.now) ≡ None) c.id.ensures.value c.in-None.ensures))
