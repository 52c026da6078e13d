use Rattle.std.proofs.Common.{◌≡◌, ◌<◌, ◌+◌, ◌∷◌, List, length, map, drop, suc, sym, ap, ◌∙◌, arith, add-one, drop-cons}
use Rattle.std.specs.Prelude.{max}
use Rattle.wb_model.specs.declared.entry.Entry.{Entry}
use Rattle.wb_model.specs.Reopened.{latest}
use Rattle.wb_rows.specs.Reports.{case_report}
use Rattle.wb_rows.specs.Openings.{report_moments}
use Rattle.wb_recovery.proofs.LaterMoments.{some_later}
use Rattle.wb_recovery.proofs.moments.latest_of_reports.Goals as goal

pub loop-item-preserved : goal.loop-item-preserved
loop-item-preserved c =
    let loop = c.loop-item in
    let xs = c.args.cases.now in
    let x = c.item-item.result in
    let rest = drop (loop.item-index + 1) xs in
    let within : loop.item-index < length xs = omega arith in
    let split : drop loop.item-index xs ≡ x ∷ rest = rw add-one (drop-cons xs loop.item-index x within ∙ ap (λ y. y ∷ drop (suc loop.item-index) xs) (sym c.item-item.is)) in
    let new : c.latest_entry-last.result ≡ max loop.last (latest (map (λ (e : Entry). e.at) x.case.items)) = c.latest_entry-last.ensures ∙ ap (λ (es : List Entry). max loop.last (latest (map (λ (e : Entry). e.at) es))) (c.as_slice.ensures ∙ c.trail.ensures) in
    some_later (map (λ (e : Entry). e.at) x.case.items) loop.last c.latest_entry-last.result (report_moments (map case_report rest)) new
    ∙ (ap (λ l. max loop.last (latest (report_moments (map case_report l)))) (sym split) ∙ loop.invariant)
