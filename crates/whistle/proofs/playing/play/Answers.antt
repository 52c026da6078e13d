use Rattle.std.proofs.Common.{refl, ap, ◌∙◌, arith}
use Rattle.wb_model.specs.Pasts.{standing_hosts}
use Rattle.wb_model.specs.Scripts.{past_after}
use Rattle.wb_model.specs.Tenants.{Hosts}
use Rattle.wb_wire.specs.declared.frames.FrameNo.TheVariants as causes
use Rattle.wb_wire.specs.FrameReading.{Progress}
use Rattle.wb_tables.specs.Standing.{hosts_of}
use Rattle.whistle.proofs.PlayLemmas.{Turned, at_start, advance, stuck, ended, stopped, some_bytes}
use Rattle.whistle.proofs.playing.play.Given as given
use Rattle.whistle.proofs.playing.play.Goals as goal
use Rattle.whistle.proofs.playing.play.Goals.{After-answer_frame-answer}

pub loop-frame-init : goal.loop-frame-init
loop-frame-init g c =
    let begins = c.in-Ok.ensures.ok in
    record {
      in_run = at_start (g.S.Source.end c.args.source.now) (g.W.Sink.end c.args.sink.now) (g.K.Keeper.end c.args.keeper.now) _ _ (hosts_of c.in-Ok.desk) c.open.new.reader begins
          (c.each_script_is_as_promised.ensures begins.loaded begins.setup begins.start begins.opens.opened) (c.a_desk_leaves_rows_that_are_read.ensures c.in-Ok.desk begins.start c.stands.ensures begins.opens.stands) c.open.ensures.limit;
      few = omega (arith, ap (λ (h : Hosts). h.turns) (begins.opens.stands ∙ ap standing_hosts begins.opens.opened.opens));
      limit = c.open.ensures.limit;
      back = c.open.ensures.back;
      read_on = c.open.ensures.stayed (λ is. absurd cc);
      written_on = refl;
    }

-- a frame was taken and answered
turned : (g : given.Over) (c : After-answer_frame-answer g) → Turned c.loop-frame.invariant.in_run (g.S.Source.end c.next.new.source) (g.K.Keeper.end c.answer_frame-answer.new.keeper) (hosts_of c.answer_frame-answer.new.desk) c.in-Ok-Some.frame c.answer_frame-answer.result
turned g c =
    let was = c.loop-frame.invariant.in_run in
    let is = c.answer_frame-answer.ensures.answer (past_after was.start was.places) was.stands in
    record {
      place = is.0;
      took = rw c.in-Ok-Some.field-0-is at c.in-Ok-Some.ensures.ok;
      is = is.1;
      read = c.answer_frame-answer.ensures.read_back;
      back = c.answer_frame-answer.ensures.back;
    }

pub loop-frame-preserved : goal.loop-frame-preserved
loop-frame-preserved g c =
    let was = c.loop-frame.invariant in
    let goes = rw c.in-Ok-Some.field-0-is at c.in-Ok-Some.ensures.goes_on in
    record {
      in_run = advance was.in_run _ (turned g (goal.at.loop-frame-preserved g c).After-answer_frame-answer) c.in-Ok-write_response.ensures.ok c.next.new.self goes c.next.ensures.limit;
      few = omega (arith, c.answer_frame-answer.ensures.turns, was.few, ap (λ (p : Progress). p.taken) goes, some_bytes c.in-Ok-Some.frame);
      limit = c.next.ensures.limit;
      back = λ h. was.back (c.answer_frame-answer.ensures.back h);
      read_on = c.in-Ok-Some.ensures.stayed (λ is. absurd cc) ∙ was.read_on;
      written_on = c.in-Ok-write_response.ensures.cause.stayed ∙ was.written_on;
    }

pub loop-frame-smaller : goal.loop-frame-smaller
loop-frame-smaller g c =
    let goes = rw c.in-Ok-Some.field-0-is at c.in-Ok-Some.ensures.goes_on in
    omega (arith, ap (λ (p : Progress). p.taken) goes, some_bytes c.in-Ok-Some.frame, c.next.ensures.limit)

pub returns-in-Err-write_response-clause-ran : goal.returns-in-Err-write_response-clause-ran
returns-in-Err-write_response-clause-ran g c =
    let was = c.loop-frame.invariant in
    let turn = turned g (goal.at.returns-in-Err-write_response-clause-ran g c).After-answer_frame-answer in
    let goes = rw c.in-Ok-Some.field-0-is at c.in-Ok-Some.ensures.goes_on in
    stuck was.in_run (g.W.Sink.end c.write_response.new.sink) turn c.next.new.self goes c.next.ensures.limit c.in-Err-write_response.ensures.err (omega (arith, was.written_on, c.in-Err-write_response.ensures.cause.failed))

pub returns-in-Ok-None-clause-ran : goal.returns-in-Ok-None-clause-ran
returns-in-Ok-None-clause-ran g c =
    let end = rw c.in-Ok-None.field-0-is at c.in-Ok-None.ensures.ok in
    ended c.loop-frame.invariant.in_run (g.S.Source.end c.next.new.source) end

pub returns-in-Err-Read-clause-ran : goal.returns-in-Err-Read-clause-ran
returns-in-Err-Read-clause-ran g c =
    let was = c.loop-frame.invariant in
    let cause = rw c.in-Err-Read.field-0-is at c.in-Err-Read.ensures.cause was.in_run.goes_on in
    stopped was.in_run (g.S.Source.end c.next.new.source) causes.Read cause was.read_on

pub returns-in-Err-Bad-clause-ran : goal.returns-in-Err-Bad-clause-ran
returns-in-Err-Bad-clause-ran g c =
    let was = c.loop-frame.invariant in
    let cause = rw c.in-Err-Bad.field-0-is at c.in-Err-Bad.ensures.cause was.in_run.goes_on in
    rw c.in-Err-Bad.field-0-is (stopped was.in_run (g.S.Source.end c.next.new.source) (causes.Bad c.in-Err-Bad.n) cause was.read_on)

pub returns-in-Err-TooLong-clause-ran : goal.returns-in-Err-TooLong-clause-ran
returns-in-Err-TooLong-clause-ran g c =
    let was = c.loop-frame.invariant in
    let cause = rw c.in-Err-TooLong.field-0-is at c.in-Err-TooLong.ensures.cause was.in_run.goes_on in
    stopped was.in_run (g.S.Source.end c.next.new.source) causes.TooLong cause was.read_on

pub returns-in-Err-Memory-clause-ran : goal.returns-in-Err-Memory-clause-ran
returns-in-Err-Memory-clause-ran g c =
    let was = c.loop-frame.invariant in
    let cause = rw c.in-Err-Memory.field-0-is at c.in-Err-Memory.ensures.cause was.in_run.goes_on in
    stopped was.in_run (g.S.Source.end c.next.new.source) causes.Memory cause was.read_on
