use Rattle.std.proofs.Common.{◌≡◌, ◌+◌, ◌∷◌, List, ℕ, Some, None, suc, drop, ap, sym, ◌∙◌, rules, drop-cons, add-one}
use Rattle.wb_transport.specs.Dials.{Dialed, given}
use Rattle.wb_etcd.specs.Exchanges.{connection}
use Rattle.wb_etcd.proofs.Asking.{stays, passes}
use Rattle.wb_etcd.proofs.exchange.connect.Goals as goal

pub loop-endpoint-preserved : goal.loop-endpoint-preserved
loop-endpoint-preserved g c =
    let inv = c.loop-endpoint.invariant in
    let all : List (List ℕ) = c.args.endpoints.now in
    let at = c.loop-endpoint.endpoint-index in
    let endpoint = c.endpoint-item.result in
    let same : c.as_str-in-loop-endpoint.result.now ≡ endpoint = search rules in
    let refused : (x : Dialed) → (g.D.Dial.end c.args.dial.now).told ≡ Some x → given c.as_str-in-loop-endpoint.result.now x ≡ None = λ x is. c.in_default.ensures.refused x (inv.none x is) in
    let next : drop at all ≡ endpoint ∷ drop (at + 1) all = rw add-one (drop-cons all at endpoint c.loop-endpoint-test.true ∙ ap (λ (y : List ℕ). y ∷ drop (suc at) all) (sym c.endpoint-item.is)) in
    record {
      none = λ x is. c.dial.ensures.after x (inv.none x is) ∙ ap Some (stays c.as_str-in-loop-endpoint.result.now x (refused x is));
      left = λ x is. inv.left x is ∙ (ap (λ (endpoints : List (List ℕ)). connection endpoints x) next ∙ passes endpoint (drop (at + 1) all) x (rw same at refused x is));
    }
