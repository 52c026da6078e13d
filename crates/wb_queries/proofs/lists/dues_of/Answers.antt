use Rattle.std.proofs.Common.{map, filter, refl, sym, ap, ◌∙◌}
use Rattle.wb_model.specs.Tables.{Case}
use Rattle.wb_model.specs.ViewRows.{dues, dues_of}
use Rattle.wb_tables.specs.Indexed.{has_dues}
use Rattle.wb_tables.specs.Kept.{case_of}
use Rattle.wb_queries.proofs.PickedRows.{is_read_on, more_rows, no_dues, picked, read_on, same_rows}
use Rattle.wb_queries.proofs.lists.dues_of.Goals as goal
use Rattle.wb_queries.proofs.lists.dues_of.Goals.{then-is_listed+in_ok-push_dues, else-is_listed}

pub loop-at-init : goal.loop-at-init
loop-at-init c =
    let cs = map case_of c.args.cases.now.items in
    rw c.new-rows.ensures.items (picked (λ (d : Case). dues_of d.number d.trail) dues refl (λ d ds. refl) (is_read_on c.args.today c.args.user) has_dues no_dues cs ∙ ap dues (read_on c.args.today c.args.user cs))

pub loop-at-preserved : goal.loop-at-preserved
loop-at-preserved c =
    let cs = filter has_dues (map case_of c.args.cases.now.items) in
    let report = case_of c.due_at-report.result.now in
    let there = c.due_at-report.ensures in
    elim c.if-is_listed.branch [
      | then-is_listed+in_ok-push_dues w ↦ rw (w.rows-is, w.in_ok-push_dues.ensures) (more_rows (λ (d : Case). dues_of d.number d.trail) dues refl (λ d ds. refl) (is_read_on c.args.today c.args.user) c.loop-at.at cs report c.loop-at.rows.items _ there (sym c.is_listed.ensures ∙ w.if-is_listed.true) c.loop-at.invariant)
      | else-is_listed w ↦ rw w.rows-is (same_rows (λ (d : Case). dues_of d.number d.trail) dues refl (λ d ds. refl) (is_read_on c.args.today c.args.user) c.loop-at.at cs report c.loop-at.rows.items _ there (sym c.is_listed.ensures ∙ w.if-is_listed.false) c.loop-at.invariant)
    ]
