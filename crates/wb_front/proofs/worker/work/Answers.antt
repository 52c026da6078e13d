use Rattle.std.proofs.Common.{◌≡◌, ◌+◌, ◌-◌, inl, [], ◌∷◌, ◌++◌, Some, refl, ap, ◌∙◌, subst, arith}
use Rattle.wb_front.specs.Attended.{RoseOften}
use Rattle.wb_front.proofs.Working.{line_attended, nothing_worked, worked_more, out_given, none_left, rose_more, rose_stays}
use Rattle.wb_front.proofs.worker.work.Goals as goal

pub loop-init : goal.loop-init
loop-init g c = ((λ x is. (x, is, nothing_worked (λ own frame told own'. g.G.Gate.ran own frame told own') x c.args.own.now (g.T.Ticker.end c.args.station.now.ticker))), inl (omega arith), omega arith, refl, c.requires.of)

pub overflow_add-failed : goal.overflow_add-failed
overflow_add-failed g c = omega (arith, c.loop.invariant.2)

pub returns-then-failed-eq16-clause-attended : goal.returns-then-failed-eq16-clause-attended
returns-then-failed-eq16-clause-attended g c = λ x is. let y = c.loop.invariant.0 x is in (y.0, c.in-Err.ensures.failed ∙ y.1, y.2)

pub returns-then-failed-eq16-clause-failed : goal.returns-then-failed-eq16-clause-failed
returns-then-failed-eq16-clause-failed g c = λ e.
    subst (λ n. RoseOften n (g.Li.Listener.end c.args.station.now.listener).count (g.Li.Listener.end c.next-in-loop.new.self).count) c.if-failed-eq16.true
    (rose_more c.loop.failed (g.Li.Listener.end c.args.station.now.listener).count (g.Li.Listener.end c.loop.station.listener).count (g.Li.Listener.end c.next-in-loop.new.self).count c.loop.invariant.1 c.in-Err.ensures.cause.later c.in-Err.ensures.cause.failed)

pub loop-preserved-else-failed-eq16 : goal.loop-preserved-else-failed-eq16
loop-preserved-else-failed-eq16 g c = (
  (λ x is. let y = c.loop.invariant.0 x is in (y.0, c.in-Err.ensures.failed ∙ y.1, y.2)),
  rose_more c.loop.failed (g.Li.Listener.end c.args.station.now.listener).count (g.Li.Listener.end c.loop.station.listener).count (g.Li.Listener.end c.next-in-loop.new.self).count c.loop.invariant.1 c.in-Err.ensures.cause.later c.in-Err.ensures.cause.failed,
  omega (arith, c.loop.invariant.2, c.if-failed-eq16.false),
  c.loop.invariant.3,
  c.loop.invariant.4,
)

pub returns-in-Ok-None-clause-attended : goal.returns-in-Ok-None-clause-attended
returns-in-Ok-None-clause-attended g c = λ x is. let y = c.loop.invariant.0 x is in let n = rw c.in-Ok-None.field-0-is at (c.in-Ok-None.ensures.none y.0 y.1) in (y.0, n.1, y.2)

pub returns-in-Ok-None-clause-ended : goal.returns-in-Ok-None-clause-ended
returns-in-Ok-None-clause-ended g c = λ e z is. none_left (g.Li.Listener.end c.loop.station.listener).told (g.Li.Listener.end c.next-in-loop.new.self).told c.in-Ok-None.ensures.untold (λ x told. rw c.in-Ok-None.field-0-is at (c.in-Ok-None.ensures.none x told)) z is

pub back-requires : goal.back-requires
back-requires g c = out_given (g.Li.Listener.end c.loop.station.listener) (g.Li.Listener.end c.next-in-loop.new.self) (g.Li.End.Link.end c.in-Ok-Some.link) c.in-Ok-Some.ensures.untold (λ x told. rw c.in-Ok-Some.field-0-is at (c.in-Ok-Some.ensures.given x told))

pub loop-preserved : goal.loop-preserved
loop-preserved g c =
    let served = c.serve_connection.ensures in (
      (λ x is.
          let y = c.loop.invariant.0 x is in
          let gave = rw c.in-Ok-Some.field-0-is at (c.in-Ok-Some.ensures.given y.0 y.1) in
          let one = line_attended (λ own frame told own'. g.G.Gate.ran own frame told own') (g.Li.End.Link.end c.in-Ok-Some.link) (g.Li.End.Link.end c.serve_connection.new.link) gave.0 (g.T.Ticker.end c.loop.station.ticker) (g.T.Ticker.end c.serve_connection.new.ticker) c.loop.own c.serve_connection.new.own
          c.serve_connection.result gave.3 served.ended served.read_fault served.write_fault served.clock_fault served.link_stayed served.clock_stayed in
          let back : y.0.out + 1 - 1 ≡ y.0.out = omega arith in (
            record { left = gave.1; out = y.0.out; came = y.0.came ++ one.0 ∷ [] },
            c.back.ensures.came (record y.0 { left = gave.1; out = y.0.out + 1 }) one.0 gave.4 one.1 ∙ ap (λ n. Some (record { left = gave.1; out = n; came = y.0.came ++ one.0 ∷ [] })) back,
            worked_more (λ own frame told own'. g.G.Gate.ran own frame told own') x y.0 gave.0 one.0 gave.1 c.args.own.now c.loop.own c.serve_connection.new.own (g.T.Ticker.end c.args.station.now.ticker) (g.T.Ticker.end c.loop.station.ticker) (g.T.Ticker.end c.serve_connection.new.ticker) y.2 gave.2 one.2,
          )),
      rose_stays c.loop.failed (g.Li.Listener.end c.args.station.now.listener).count (g.Li.Listener.end c.loop.station.listener).count (g.Li.Listener.end c.back.new.self).count c.loop.invariant.1 (omega (arith, c.back.ensures.count, c.in-Ok-Some.ensures.cause.later)),
      c.loop.invariant.2,
      served.parts ∙ c.loop.invariant.3,
      served.of,
    )
