use Rattle.std.proofs.Common.{◌≡◌, ◌++◌, ◌+◌, List, ℕ, length, ap, sym, subst, ◌∙◌, rules, arith}
use Rattle.httparse.specs.Spans.{span_bytes}
use Rattle.wb_etcd.proofs.Bodies.{Waits, begins, goes_on, ended}
use Rattle.wb_etcd.proofs.responses.read_body.Goals as goal

pub loop-init : goal.loop-init
loop-init c = search (rules, begins)

pub loop-preserved : goal.loop-preserved
loop-preserved c =
    let found = rw c.in-Ok-Data.field-0-is at c.in-Ok-Data.ensures.ok in
    let piece : List ℕ = span_bytes c.behind-rest.result.now c.in-Ok-Data.piece in
    let more : c.extend_from_slice.new.self.items ≡ c.loop.content.items ++ piece = c.in_ok-extend_from_slice-in-Ok-Data.ensures.items ∙ ap (λ (xs : List ℕ). c.loop.content.items ++ xs) c.of.ensures in
    let next : Waits c.args.framing c.decode.new.self c.args.bytes.now (c.loop.content.items ++ piece) (c.loop.at + c.in-Ok-Data.piece.end) = goes_on c.args.framing c.loop.decoder c.decode.new.self c.args.bytes.now c.behind-rest.result.now c.loop.content.items piece c.loop.at c.in-Ok-Data.piece.end c.loop.invariant c.behind-rest.ensures found.1 in
    subst (λ (xs : List ℕ). Waits c.args.framing c.decode.new.self c.args.bytes.now xs (c.loop.at + c.in-Ok-Data.piece.end)) (sym more) next

pub returns-in-Ok-End : goal.returns-in-Ok-End
returns-in-Ok-End c =
    let all : c.in-Ok-End.len ≡ length c.behind-rest.result.now = omega arith in
    ended c.args.framing c.loop.decoder c.args.bytes.now c.behind-rest.result.now c.loop.content.items c.loop.at c.decode.new.trailers c.in-Ok-End.len _ c.loop.invariant c.behind-rest.ensures (rw c.in-Ok-End.field-0-is at c.in-Ok-End.ensures.ok) all
