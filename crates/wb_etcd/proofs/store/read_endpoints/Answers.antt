use Rattle.std.proofs.Common.{rules, ◌≡◌, ◌++◌, [], ◌∷◌, true, false, ◌∙◌, ap}
use Rattle.wb_etcd.specs.StoreNames.{is_endpoint}
use Rattle.wb_etcd.proofs.Names.{all_read, first_part, last_part, more_parts, more_read, none_read}
use Rattle.wb_etcd.proofs.store.read_endpoints.Goals as goal

pub returns-then-not-is_endpoint : goal.returns-then-not-is_endpoint
returns-then-not-is_endpoint c =
    let l = c.loop-endpoint in
    let first = first_part l.rest.now c.in-Some.endpoint c.in-Some.others c.in-Some.ensures.cases in
    let out : is_endpoint c.in-Some.endpoint.now ≡ false = search rules in
    none_read c.args.text.now l.endpoints c.in-Some.endpoint.now _ (l.invariant.1 ∙ ap (λ parts. l.endpoints ++ parts) first) out

pub loop-endpoint-preserved : goal.loop-endpoint-preserved
loop-endpoint-preserved c =
    let l = c.loop-endpoint in
    let first = first_part l.rest.now c.in-Some.endpoint c.in-Some.others c.in-Some.ensures.cases in
    let is_one : is_endpoint c.in-Some.endpoint.now ≡ true = search rules in
    let pushed : c.push.new.self ≡ l.endpoints ++ c.in-Some.endpoint.now ∷ [] = search rules in (
      search rules,
      more_parts c.args.text.now l.endpoints c.push.new.self c.in-Some.endpoint.now _ (l.invariant.1 ∙ ap (λ parts. l.endpoints ++ parts) first) pushed,
      more_read l.endpoints c.push.new.self c.in-Some.endpoint.now l.invariant.2 is_one pushed,
    )

pub returns-then-not-is_endpoint-2 : goal.returns-then-not-is_endpoint-2
returns-then-not-is_endpoint-2 c =
    let l = c.loop-endpoint in
    let last = last_part l.rest.now c.in_default.ensures.cases in
    let out : is_endpoint l.rest.now ≡ false = search rules in
    none_read c.args.text.now l.endpoints l.rest.now [] (l.invariant.1 ∙ ap (λ parts. l.endpoints ++ parts) last) out

pub returns : goal.returns
returns c =
    let l = c.loop-endpoint in
    let last = last_part l.rest.now c.in_default.ensures.cases in
    let is_one : is_endpoint l.rest.now ≡ true = search rules in
    let pushed : c.push-2.new.self ≡ l.endpoints ++ l.rest.now ∷ [] = search rules in
    all_read c.args.text.now c.push-2.new.self (l.invariant.1 ∙ ap (λ parts. l.endpoints ++ parts) last) pushed (more_read l.endpoints c.push-2.new.self l.rest.now l.invariant.2 is_one pushed)
