use Rattle.std.proofs.Common.{List, map, sym, ap, ◌∙◌}
use Rattle.std.specs.Prelude.{max}
use Rattle.wb_row_codec.specs.declared.item.NumberingItem.{NumberingItem}
use Rattle.wb_model.specs.Reopened.{latest}
use Rattle.wb_rows.specs.Reports.{case_report}
use Rattle.wb_rows.specs.Openings.{report_moments}
use Rattle.wb_recovery.proofs.LaterMoments.{latest_append}
use Rattle.wb_recovery.proofs.moments.latest_kept.Goals as goal

pub returns : goal.returns
returns c =
    let drawn = c.latest_draw-drawn.ensures ∙ ap (λ (xs : List NumberingItem). latest (map (λ x. x.numbering.at) xs)) c.as_slice.ensures in
    c.latest_of_reports.ensures
    ∙ ((λ i. max (drawn i) (latest (report_moments (map case_report (c.as_slice-2.ensures i)))))
    ∙ sym (latest_append (map (λ (x : NumberingItem). x.numbering.at) c.args.tables.now.numberings) (report_moments (map case_report c.args.tables.now.cases))))
