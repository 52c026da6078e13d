use Rattle.std.proofs.Common.{List, subst}
use Rattle.std.specs.Io.KnownBytes.{Appends}
use Rattle.wb_base.specs.Outside.{AppendsFront}
use Rattle.whistle.specs.declared.counting.StatusCount.{StatusCount}
use Rattle.whistle.specs.TallyText.{counted, tally_text}
use Rattle.whistle.proofs.PlayedTurns.{not_usage}
use Rattle.whistle.proofs.tallying.tally.Goals as goal

pub returns-in-Ok-write_tally-clause-tallied : goal.returns-in-Ok-write_tally-clause-tallied
returns-in-Ok-write_tally-clause-tallied g c =
    let ok = c.in-Ok-play_turns.ensures.ok in
    let told = c.in-Ok-play_turns.told in (
      ok.0,
      (
        tally_text c.args.turns told.statuses.items (counted told.held),
        ok.1,
        subst (λ (rows : List StatusCount). Appends (g.W.Sink.end c.args.sink.now).held (g.W.Sink.end c.write_tally.new.sink).held (tally_text c.args.turns rows (counted told.held))) c.as_slice.ensures.value c.in-Ok-write_tally.ensures.ok,
      ),
    )

pub returns-clause-tallied : goal.returns-clause-tallied
returns-clause-tallied g c =
    let ok = c.in-Ok-play_turns.ensures.ok in
    let told = c.in-Ok-play_turns.told in (
      ok.0,
      (
        tally_text c.args.turns told.statuses.items (counted told.held),
        ok.1,
        subst (λ (rows : List StatusCount). AppendsFront (g.W.Sink.end c.args.sink.now).held (g.W.Sink.end c.write_tally.new.sink).held (tally_text c.args.turns rows (counted told.held))) c.as_slice.ensures.value c.in-Err-write_tally.ensures.err,
      ),
      c.in-Err-write_tally.ensures.cause.failed,
    )

pub returns-in-Err-play_turns-clause-no_usage : goal.returns-in-Err-play_turns-clause-no_usage
returns-in-Err-play_turns-clause-no_usage g c =
    not_usage (g.K.Keeper.end c.args.keeper.now) (g.K.Keeper.end c.play_turns.new.keeper) c.args.turns c.in-Err-play_turns.status c.in-Err-play_turns.ensures.err
