use Rattle.std.proofs.Common.{inr, ℕ, ◌+◌, List, refl, sym, ap, ◌∙◌, subst, arith}
use Rattle.wb_model.specs.Pasts.{standing_hosts}
use Rattle.wb_model.specs.Scripts.{past_after}
use Rattle.wb_model.specs.Tenants.{Hosts}
use Rattle.wb_tables.specs.Standing.{hosts_of}
use Rattle.whistle.specs.declared.sample_setup.TheConstants.{HARBOUR}
use Rattle.whistle.specs.declared.counting.StatusCount.{StatusCount}
use Rattle.wb_desk.specs.Openings.{IsOpenedBy}
use Rattle.whistle.proofs.PlayedTurns.{SoFar, at_start, played_next, next, not_opened, told_at_end}
use Rattle.whistle.proofs.tallying.play_turns.Goals as goal

pub returns-in-Err-clause-err : goal.returns-in-Err-clause-err
returns-in-Err-clause-err g c =
    not_opened (g.K.Keeper.end c.args.keeper.now) (g.K.Keeper.end c.open_by.new.keeper) c.args.turns c.as_bytes.result.now c.in-Err.status c.as_bytes.ensures.value c.in-Err.ensures.err

pub loop-before-init : goal.loop-before-init
loop-before-init g c =
    let ok = c.in-Ok.ensures.ok in
    record {
      so_far = subst (λ (rows : List StatusCount). SoFar (g.K.Keeper.end c.args.keeper.now) (g.K.Keeper.end c.open_by.new.keeper) (hosts_of c.in-Ok.desk) rows 0) (sym c.new-statuses.ensures)
          (at_start (g.K.Keeper.end c.args.keeper.now) ok.0 c.as_bytes.result.now ok.1 c.as_bytes.ensures.value
          (c.each_script_is_as_promised.ensures ok.0 HARBOUR.now ok.1 (subst (λ (text : List ℕ). IsOpenedBy ok.0 text ok.1) c.as_bytes.ensures.value ok.2.opened))
          (g.K.Keeper.end c.open_by.new.keeper) (hosts_of c.in-Ok.desk) ok.2 (c.a_desk_leaves_rows_that_are_read.ensures c.in-Ok.desk ok.1 c.stands.ensures ok.2.stands));
      few = omega (arith, ap (λ (h : Hosts). h.turns) (ok.2.stands ∙ ap standing_hosts ok.2.opened.opens));
      back = c.open_by.ensures.back;
    }

pub returns-in-Err-count_reply-clause-err : goal.returns-in-Err-count_reply-clause-err
returns-in-Err-count_reply-clause-err g c =
    let so_far = c.loop-before.invariant.so_far in
    let was = so_far.played in
    let is = c.answer_frame-answer.ensures.answer (past_after was.start was.places) so_far.stands in
    inr (
      refl,
      (
        c.loop-before.before + 1,
        omega (arith, c.loop-before-test.true),
        played_next (g.K.Keeper.end c.args.keeper.now) (g.K.Keeper.end c.loop-before.keeper) (hosts_of c.loop-before.desk) c.loop-before.statuses.items c.loop-before.before so_far
            (c.each_script_is_as_promised.ensures was.loaded HARBOUR.now was.start was.opened)
            (g.K.Keeper.end c.answer_frame-answer.new.keeper) c.answer_frame-answer.ensures.back (hosts_of c.answer_frame-answer.new.desk) c.in-Ok-script_frame.frame c.in-Ok-script_frame.ensures.made c.answer_frame-answer.result is.0 is.1 c.answer_frame-answer.ensures.read_back,
      ),
    )

pub loop-before-preserved : goal.loop-before-preserved
loop-before-preserved g c =
    let so_far = c.loop-before.invariant.so_far in
    let was = so_far.played in
    let is = c.answer_frame-answer.ensures.answer (past_after was.start was.places) so_far.stands in
    record {
      so_far = next (g.K.Keeper.end c.args.keeper.now) (g.K.Keeper.end c.loop-before.keeper) (hosts_of c.loop-before.desk) c.loop-before.statuses.items c.loop-before.before so_far
          (c.each_script_is_as_promised.ensures was.loaded HARBOUR.now was.start was.opened)
          (g.K.Keeper.end c.answer_frame-answer.new.keeper) c.answer_frame-answer.ensures.back (hosts_of c.answer_frame-answer.new.desk) c.in-Ok-script_frame.frame c.in-Ok-script_frame.ensures.made c.answer_frame-answer.result is.0 is.1 c.answer_frame-answer.ensures.read_back
          c.count_reply.new.counts.items c.in-Ok-count_reply.ensures;
      few = omega (arith, c.answer_frame-answer.ensures.turns, c.loop-before.invariant.few);
      back = λ h. c.loop-before.invariant.back (c.answer_frame-answer.ensures.back h);
    }

pub returns-clause-ok : goal.returns-clause-ok
returns-clause-ok g c =
    told_at_end (g.K.Keeper.end c.args.keeper.now) (g.K.Keeper.end c.loop-before.keeper) c.loop-before.desk c.loop-before.statuses.items c.into_vec.result.items c.counts.result c.loop-before.before c.args.turns
    (omega (arith, c.loop-before.auto.before-end, c.loop-before-test.false)) c.loop-before.invariant.so_far c.into_vec.ensures.ascending c.into_vec.ensures.all c.counts.ensures
