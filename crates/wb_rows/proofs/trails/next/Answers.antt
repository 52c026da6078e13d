use Rattle.std.proofs.Common.{◌≡◌, [], ◌∷◌, ◌++◌, map, sym, ap, ◌∙◌, subst}
use Rattle.std.proofs.lemmas.List.{map-append}
use Rattle.wb_rows.specs.Growing.{rest_of, with_all}
use Rattle.wb_rows.specs.Reports.{case_report}
use Rattle.wb_rows.specs.OpenReports.{report_of}
use Rattle.wb_rows.specs.TrailRule.{reports_after}
use Rattle.wb_rows.proofs.GrowingTrails.{done-with, follows}
use Rattle.wb_rows.proofs.trails.next.Goals as goal

pub returns-in_ok-push-in-Some-clause-ok : goal.returns-in_ok-push-in-Some-clause-ok
returns-in_ok-push-in-Some-clause-ok c =
    let lists = c.args.registry.now.lists in
    let done = map case_report c.args.done.now.items in
    let r = c.in-Some.report in
    let pushed : map case_report c.push.new.self.items ≡ done ++ report_of r ∷ [] =
    ap (map case_report) c.in_ok-push-in-Some.ensures.items ∙ (map-append case_report c.args.done.now.items (c.close.result ∷ []) ∙ ap (λ x. done ++ x ∷ []) c.close.ensures) in
    follows c.begin-in-Some.result c.begin-in-Some.ensures.begins c.begin-in-Some.ensures.report (λ o first is left.
    subst (λ so_far. with_all done (rest_of lists so_far (c.args.item ∷ left)) ≡ with_all (map case_report c.push.new.self.items) (reports_after lists (report_of o) left)) (sym c.in-Some.is)
    (done-with lists done (report_of r) (report_of o) c.args.item left (sym c.is_of.ensures ∙ c.if-is_of.false) first is ∙ ap (λ l. with_all l (reports_after lists (report_of o) left)) (sym pushed)))
