use Rattle.std.proofs.Common.{◌+◌, ◌++◌, [], ◌∷◌, length, take, refl, sym, ap, ◌∙◌, subst, arith}
use Rattle.std.specs.Io.KnownBytes.{Appends}
use Rattle.wb_base.specs.Outside.{AppendsFront}
use Rattle.wb_wire.specs.Responses.{reply_of}
use Rattle.wb_front.specs.Endings.{IsOpenYet}
use Rattle.wb_front.specs.Served.{Exchange, Sides, sides_at}
use Rattle.wb_front.proofs.Serving.{nothing_yet, length_more}
use Rattle.wb_front.proofs.Sending.{as_said}
use Rattle.wb_front.proofs.Connecting.{at_end, in_part, no_more, no_tick, refused, write_cut, closed, more}
use Rattle.wb_front.proofs.connection.serve_connection.Goals as goal

pub returns-in_default-clause-ended : goal.returns-in_default-clause-ended
returns-in_default-clause-ended g c = ([], [], refl, omega arith)

pub loop-before-init : goal.loop-before-init
loop-before-init g c =
    let a : Sides _ = sides_at (g.L.Link.end c.args.link.now) (g.T.Ticker.end c.args.ticker.now) c.args.own.now in
    (([], subst (IsOpenYet (λ own frame told own'. g.G.Gate.ran own frame told own') a a []) (sym c.in-Ok.ensures) (nothing_yet (λ own frame told own'. g.G.Gate.ran own frame told own') a), refl), refl, c.requires.of, refl, refl)

pub returns-in_default-next-clause-ended : goal.returns-in_default-next-clause-ended
returns-in_default-next-clause-ended g c =
    let a : Sides _ = sides_at (g.L.Link.end c.args.link.now) (g.T.Ticker.end c.args.ticker.now) c.args.own.now in
    let inv = c.loop-before.invariant.0 in
    no_more (λ own frame told own'. g.G.Gate.ran own frame told own') a (g.L.Link.end c.loop-before.link) (g.T.Ticker.end c.loop-before.ticker) c.loop-before.own inv.0 c.loop-before.inbox inv.1 (omega (arith, inv.2, c.loop-before-test.true)) c.next.new.self (g.L.Link.end c.next.new.link) c.in_default-next.ensures.flows c.in_default-next.ensures.got
    c.in_default-next.ensures.unfinished

pub returns-in-End-clause-ended : goal.returns-in-End-clause-ended
returns-in-End-clause-ended g c =
    let a : Sides _ = sides_at (g.L.Link.end c.args.link.now) (g.T.Ticker.end c.args.ticker.now) c.args.own.now in
    let inv = c.loop-before.invariant.0 in
    let came = rw c.in-End.is at c.in-Ok-next.ensures.arrived in
    at_end (λ own frame told own'. g.G.Gate.ran own frame told own') a (g.L.Link.end c.loop-before.link) (g.T.Ticker.end c.loop-before.ticker) c.loop-before.own inv.0 c.loop-before.inbox inv.1 (omega (arith, inv.2, c.loop-before-test.true)) c.next.new.self (g.L.Link.end c.next.new.link) c.in-Ok-next.ensures.flows c.in-Ok-next.ensures.got
    came.0 came.1

pub returns-in-Part-clause-ended : goal.returns-in-Part-clause-ended
returns-in-Part-clause-ended g c =
    let a : Sides _ = sides_at (g.L.Link.end c.args.link.now) (g.T.Ticker.end c.args.ticker.now) c.args.own.now in
    let inv = c.loop-before.invariant.0 in
    let came = rw c.in-Part.is at c.in-Ok-next.ensures.arrived in
    in_part (λ own frame told own'. g.G.Gate.ran own frame told own') a (g.L.Link.end c.loop-before.link) (g.T.Ticker.end c.loop-before.ticker) c.loop-before.own inv.0 c.loop-before.inbox inv.1 (omega (arith, inv.2, c.loop-before-test.true)) c.next.new.self (g.L.Link.end c.next.new.link) c.in-Ok-next.ensures.flows c.in-Ok-next.ensures.got
    came.0 came.1

pub returns-in-No-clause-ended : goal.returns-in-No-clause-ended
returns-in-No-clause-ended g c =
    let a : Sides _ = sides_at (g.L.Link.end c.args.link.now) (g.T.Ticker.end c.args.ticker.now) c.args.own.now in
    let inv = c.loop-before.invariant.0 in
    let came = rw c.in-No.is at c.in-Ok-next.ensures.arrived in
    refused (λ own frame told own'. g.G.Gate.ran own frame told own') a (g.L.Link.end c.loop-before.link) (g.T.Ticker.end c.loop-before.ticker) c.loop-before.own inv.0 c.loop-before.inbox inv.1 (omega (arith, inv.2, c.loop-before-test.true)) c.next.new.self (g.L.Link.end c.next.new.link) c.in-Ok-next.ensures.flows c.in-Ok-next.ensures.got
    c.in-No.fault c.refuse.result (g.L.Link.end c.refuse.new.link) came c.refuse.ensures.left c.refuse.ensures.sent

pub returns-in_default-reply_to-clause-ended : goal.returns-in_default-reply_to-clause-ended
returns-in_default-reply_to-clause-ended g c =
    let a : Sides _ = sides_at (g.L.Link.end c.args.link.now) (g.T.Ticker.end c.args.ticker.now) c.args.own.now in
    let inv = c.loop-before.invariant.0 in
    let failed = c.in_default-reply_to.ensures.failed in
    no_tick (λ own frame told own'. g.G.Gate.ran own frame told own') a (g.L.Link.end c.loop-before.link) (g.T.Ticker.end c.loop-before.ticker) c.loop-before.own inv.0 c.loop-before.inbox inv.1 (omega (arith, inv.2, c.loop-before-test.true)) c.next.new.self (g.L.Link.end c.next.new.link) c.in-Ok-next.ensures.flows c.in-Ok-next.ensures.got
    c.in-Request.size c.first.result.now failed.2.0 (g.T.Ticker.end c.reply_to.new.ticker) c.reply_to.new.own c.first.ensures failed.2.1 failed.1 failed.0

pub returns-in_default-send-clause-ended : goal.returns-in_default-send-clause-ended
returns-in_default-send-clause-ended g c =
    let a : Sides _ = sides_at (g.L.Link.end c.args.link.now) (g.T.Ticker.end c.args.ticker.now) c.args.own.now in
    let inv = c.loop-before.invariant.0 in
    let came = rw c.in-Request.is at c.in-Ok-next.ensures.arrived in
    write_cut (λ own frame told own'. g.G.Gate.ran own frame told own') a (g.L.Link.end c.loop-before.link) (g.T.Ticker.end c.loop-before.ticker) c.loop-before.own inv.0 c.loop-before.inbox inv.1 (omega (arith, inv.2, c.loop-before-test.true)) c.next.new.self (g.L.Link.end c.next.new.link) c.in-Ok-next.ensures.flows c.in-Ok-next.ensures.got
    c.in-Request.size came.1 c.first.result.now c.first.ensures c.in-Ok-reply_to.replied c.in-Ok-reply_to.ensures.answered.0 c.reply_to.new.own (g.T.Ticker.end c.reply_to.new.ticker) c.in-Ok-reply_to.ensures.answered.1 (g.L.Link.end c.send.new.link) c.in_default-send.ensures.left (subst (AppendsFront (g.L.Link.end c.next.new.link).got (g.L.Link.end c.send.new.link).got) (as_said c.in-Ok-reply_to.replied.response c.closes_after.result c.loop-before.before (length inv.0) c.closes_after.ensures inv.2) c.in_default-send.ensures.err)

pub returns-then-replied-clause-ended : goal.returns-then-replied-clause-ended
returns-then-replied-clause-ended g c =
    let a : Sides _ = sides_at (g.L.Link.end c.args.link.now) (g.T.Ticker.end c.args.ticker.now) c.args.own.now in
    let inv = c.loop-before.invariant.0 in
    let came = rw c.in-Request.is at c.in-Ok-next.ensures.arrived in
    closed (λ own frame told own'. g.G.Gate.ran own frame told own') a (g.L.Link.end c.loop-before.link) (g.T.Ticker.end c.loop-before.ticker) c.loop-before.own inv.0 c.loop-before.inbox inv.1 (omega (arith, inv.2, c.loop-before-test.true)) c.next.new.self (g.L.Link.end c.next.new.link) c.in-Ok-next.ensures.flows c.in-Ok-next.ensures.got
    c.in-Request.size came.1 c.first.result.now c.first.ensures c.in-Ok-reply_to.replied c.in-Ok-reply_to.ensures.answered.0 c.reply_to.new.own (g.T.Ticker.end c.reply_to.new.ticker) c.in-Ok-reply_to.ensures.answered.1 (g.L.Link.end c.send.new.link) c.in-Ok-send.ensures.left (subst (Appends (g.L.Link.end c.next.new.link).got (g.L.Link.end c.send.new.link).got) (as_said c.in-Ok-reply_to.replied.response c.closes_after.result c.loop-before.before (length inv.0) c.closes_after.ensures inv.2) c.in-Ok-send.ensures.ok) c.closed.result c.if-replied.true c.closed.ensures.some c.closed.ensures.none

pub loop-before-preserved : goal.loop-before-preserved
loop-before-preserved g c =
    let a : Sides _ = sides_at (g.L.Link.end c.args.link.now) (g.T.Ticker.end c.args.ticker.now) c.args.own.now in
    let inv = c.loop-before.invariant.0 in
    let came = rw c.in-Request.is at c.in-Ok-next.ensures.arrived in
    let x : Exchange = record { request = take c.in-Request.size c.next.new.self; reply = reply_of c.in-Ok-reply_to.replied.response; tick = c.in-Ok-reply_to.ensures.answered.0 } in
    let yet = more (λ own frame told own'. g.G.Gate.ran own frame told own') a (g.L.Link.end c.loop-before.link) (g.T.Ticker.end c.loop-before.ticker) c.loop-before.own inv.0 c.loop-before.inbox inv.1 (omega (arith, inv.2, c.loop-before-test.true)) c.next.new.self (g.L.Link.end c.next.new.link) c.in-Ok-next.ensures.flows c.in-Ok-next.ensures.got
    c.in-Request.size came.1 c.first.result.now c.first.ensures c.in-Ok-reply_to.replied c.in-Ok-reply_to.ensures.answered.0 c.reply_to.new.own (g.T.Ticker.end c.reply_to.new.ticker) c.in-Ok-reply_to.ensures.answered.1 (g.L.Link.end c.send.new.link) c.in-Ok-send.ensures.left (subst (Appends (g.L.Link.end c.next.new.link).got (g.L.Link.end c.send.new.link).got) (as_said c.in-Ok-reply_to.replied.response c.closes_after.result c.loop-before.before (length inv.0) c.closes_after.ensures inv.2) c.in-Ok-send.ensures.ok) c.if-replied.false in
    ((inv.0 ++ x ∷ [], subst (IsOpenYet (λ own frame told own'. g.G.Gate.ran own frame told own') a _ (inv.0 ++ x ∷ [])) (sym c.drop_first.ensures) yet, length_more inv.0 x ∙ ap (λ n. n + 1) inv.2), c.reply_to.ensures.parts ∙ c.loop-before.invariant.1, c.reply_to.ensures.of, c.in-Ok-send.ensures.cause.stayed ∙ (c.in-Ok-next.ensures.cause.stayed ∙ c.loop-before.invariant.3), c.in-Ok-reply_to.ensures.cause.stayed ∙ c.loop-before.invariant.4)
