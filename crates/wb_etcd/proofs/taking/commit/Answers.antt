use Rattle.std.proofs.Common.{◌≡◌, ◌≤◌, List, ℕ, ◌∙◌, ap, true, rules}
use Rattle.std.specs.Prelude.{sum_by}
use Rattle.serde_json.specs.View.{view}
use Rattle.wb_transport.specs.Lines.{Line}
use Rattle.wb_etcd.specs.Transactions.{operations, batch_text, request_text}
use Rattle.wb_etcd.specs.Answers.{is_made}
use Rattle.wb_transport.specs.Dials.{after_close}
use Rattle.wb_etcd.specs.Exchanges.{connection, exchanged}
use Rattle.wb_etcd.specs.Holding.{transaction_path, operation_limit}
use Rattle.wb_etcd.proofs.Asking.{asks, is_out}
use Rattle.wb_etcd.proofs.taking.commit.Goals as goal

pub returns-then-is_made-clause-made : goal.returns-then-is_made-clause-made
returns-then-is_made-clause-made g c = λ x is.
    let found = c.in_ok-link.ensures.found x is in
    let line : Line = found.0 in
    let told = c.in_ok-link.ensures.after x is in
    let answered = c.in-Ok.ensures line found.2 in
    let body : c.as_str.result.now ≡ batch_text c.args.prefix.now c.args.revision c.args.changes.now = c.as_str.ensures.value ∙ c.in_ok-text.ensures in
    let text : c.as_str-2.result.now ≡ request_text (connection c.args.endpoints.now x).endpoint transaction_path (batch_text c.args.prefix.now c.args.revision c.args.changes.now) = c.as_str-2.ensures.value ∙ c.in_ok-link.ensures.request x is ∙ ap (λ (b : List ℕ). request_text (connection c.args.endpoints.now x).endpoint transaction_path b) body in
    let closed = c.close.ensures.after (connection c.args.endpoints.now x).after (exchanged c.as_str-2.result.now line) told (is_out c.args.endpoints.now x line found.1) answered.1 in
    let small : sum_by operations c.args.changes.now ≤ operation_limit = search rules in
    let made : is_made (view c.in-Ok.answer) ≡ true = search rules in (
      after_close (exchanged c.as_str-2.result.now line) (connection c.args.endpoints.now x).after,
      closed,
      record {
        fits = small;
        answer = view c.in-Ok.answer;
        asks = asks c.args.endpoints.now transaction_path (batch_text c.args.prefix.now c.args.revision c.args.changes.now) c.as_str-2.result.now x line (view c.in-Ok.answer) found.1 text answered.0;
        made = made;
      },
    )
