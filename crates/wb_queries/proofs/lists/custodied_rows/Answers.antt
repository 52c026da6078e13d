use Rattle.std.proofs.Common.{map, filter, refl, sym, ◌∙◌}
use Rattle.wb_model.specs.ViewRows.{all_custodied}
use Rattle.wb_tables.specs.Indexed.{has_requests}
use Rattle.wb_tables.specs.Kept.{case_of, lives_on}
use Rattle.wb_queries.proofs.PickedRows.{few_at, more_rows, no_requests, picked, requests_of, same_rows}
use Rattle.wb_queries.proofs.lists.custodied_rows.Goals as goal
use Rattle.wb_queries.proofs.lists.custodied_rows.Goals.{then-lives+in_ok-push_requests, else-lives}

pub loop-at-init : goal.loop-at-init
loop-at-init c = rw c.new-rows.ensures.items (picked (requests_of c.args.configuration.now.registry.users) (all_custodied c.args.configuration.now.registry.users) refl (λ d ds. refl) (lives_on c.args.today) has_requests (no_requests c.args.configuration.now.registry.users) (map case_of c.args.cases.now.items))

pub push_requests-requires-clause-few : goal.push_requests-requires-clause-few
push_requests-requires-clause-few c = few_at c.loop-at.at (map case_of c.args.cases.now.items) (case_of c.asked_at-report.result.now) c.requires.few c.asked_at-report.ensures.report

pub loop-at-preserved : goal.loop-at-preserved
loop-at-preserved c =
    let cs = filter has_requests (map case_of c.args.cases.now.items) in
    let report = case_of c.asked_at-report.result.now in
    let there = c.asked_at-report.ensures.report in
    elim c.if-lives.branch [
      | then-lives+in_ok-push_requests w ↦ rw (w.rows-is, w.in_ok-push_requests.ensures) (more_rows (requests_of c.args.configuration.now.registry.users) (all_custodied c.args.configuration.now.registry.users) refl (λ d ds. refl) (lives_on c.args.today) c.loop-at.at cs report c.loop-at.rows.items _ there (sym c.lives.ensures ∙ w.if-lives.true) c.loop-at.invariant)
      | else-lives w ↦ rw w.rows-is (same_rows (requests_of c.args.configuration.now.registry.users) (all_custodied c.args.configuration.now.registry.users) refl (λ d ds. refl) (lives_on c.args.today) c.loop-at.at cs report c.loop-at.rows.items _ there (sym c.lives.ensures ∙ w.if-lives.false) c.loop-at.invariant)
    ]
