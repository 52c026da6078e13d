use Rattle.std.proofs.Common.{map, sym, ap, ◌∙◌, subst}
use Rattle.wb_rows.specs.Growing.{rest_of, with_all, IsTrailFault}
use Rattle.wb_rows.specs.Reports.{case_report}
use Rattle.wb_rows.proofs.trails.reports.Goals as goal

pub returns-in-Err-clause-err : goal.returns-in-Err-clause-err
returns-in-Err-clause-err c =
    let wanted = ap (λ left. with_all (map case_report c.loop-entry.done.items) (rest_of c.args.registry.now.lists c.loop-entry.report left)) (sym c.in-Some.ensures.steps.0) ∙ c.loop-entry.invariant.reports in
    subst (λ rs. IsTrailFault rs c.in-Err.fault) wanted (c.in-Err.ensures.err c.next.new.self.rest.items)
