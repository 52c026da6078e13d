use Rattle.std.proofs.Common.{◌≡◌, ◌∙◌}
use Rattle.serde_json.specs.View.{view}
use Rattle.wb_transport.specs.Lines.{Line}
use Rattle.wb_etcd.specs.Transactions.{request_text}
use Rattle.wb_transport.specs.Dials.{after_close}
use Rattle.wb_etcd.specs.Exchanges.{connection, exchanged}
use Rattle.wb_etcd.proofs.Asking.{asks, is_out}
use Rattle.wb_etcd.proofs.exchange.ask.Goals as goal

pub returns : goal.returns
returns g c = record {
  asked = λ x is.
      let found = c.in_ok-link.ensures.found x is in
      let line : Line = found.0 in
      let told = c.in_ok-link.ensures.after x is in
      let answered = c.in_ok-answer.ensures line found.2 in
      let text : c.as_str.result.now ≡ request_text (connection c.args.endpoints.now x).endpoint c.args.path.now c.args.body.now = c.as_str.ensures.value ∙ c.in_ok-link.ensures.request x is in
      let closed = c.close.ensures.after (connection c.args.endpoints.now x).after (exchanged c.as_str.result.now line) told (is_out c.args.endpoints.now x line found.1) answered.1 in (
        after_close (exchanged c.as_str.result.now line) (connection c.args.endpoints.now x).after,
        closed,
        asks c.args.endpoints.now c.args.path.now c.args.body.now c.as_str.result.now x line (view c.in_ok-answer.answer) found.1 text answered.0,
      );
}
