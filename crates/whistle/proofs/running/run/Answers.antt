use Rattle.std.proofs.Common.{[], inl, inr, refl, arith}
use Rattle.std.proofs.KnownBytes.{Consumes-nil, Keeps-refl}
use Rattle.whistle.proofs.PlayLemmas.{nothing_begins}
use Rattle.whistle.proofs.running.run.Goals as goal

pub returns-in-Err-Memory-clause-did : goal.returns-in-Err-Memory-clause-did
returns-in-Err-Memory-clause-did g c = record {
  usage = λ is form. absurd (cc (is));
  no_form = λ none. (
    inr refl,
    Keeps-refl (g.W.Sink.end c.args.sink.now).held,
    record { left_as_it_was = Keeps-refl (g.S.Source.end c.args.source.now).left; no_read = refl },
    record { no_call = refl; rows_as_they_were = λ h before held. held },
  );
  play = λ store asks.
      inl (record {
        none = record { cause = inl (([], Consumes-nil (g.S.Source.end c.args.source.now).left, nothing_begins, omega arith), refl); rows_as_they_were = λ h before held. held };
        held_as_it_was = Keeps-refl (g.W.Sink.end c.args.sink.now).held;
      });
  make = λ turns asks. (
    Keeps-refl (g.W.Sink.end c.args.sink.now).held,
    record { left_as_it_was = Keeps-refl (g.S.Source.end c.args.source.now).left; no_read = refl },
    record { no_call = refl; rows_as_they_were = λ h before held. held },
  );
  tally = λ turns asks. (
    (inl (record { cause = omega arith; rows_as_they_were = λ h before held. held }), Keeps-refl (g.W.Sink.end c.args.sink.now).held),
    record { left_as_it_was = Keeps-refl (g.S.Source.end c.args.source.now).left; no_read = refl },
  );
  register = λ t u moment store asks. (
    (refl, Keeps-refl (g.W.Sink.end c.args.sink.now).held),
    (λ h before held. held),
    record { left_as_it_was = Keeps-refl (g.S.Source.end c.args.source.now).left; no_read = refl },
  );
  forecast = λ t day store asks. (
    (refl, Keeps-refl (g.W.Sink.end c.args.sink.now).held),
    (λ h before held. held),
    record { left_as_it_was = Keeps-refl (g.S.Source.end c.args.source.now).left; no_read = refl },
  );
}

pub returns-in-Ok-clause-did : goal.returns-in-Ok-clause-did
returns-in-Ok-clause-did g c = c.run_plan.ensures.did

pub returns-in-Ok-clause-back : goal.returns-in-Ok-clause-back
returns-in-Ok-clause-back g c = c.run_plan.ensures.back

pub returns-in-Ok-clause-read_on : goal.returns-in-Ok-clause-read_on
returns-in-Ok-clause-read_on g c = c.run_plan.ensures.read_on

pub returns-in-Ok-clause-written_on : goal.returns-in-Ok-clause-written_on
returns-in-Ok-clause-written_on g c = c.run_plan.ensures.written_on

pub returns-in-Ok-clause-complete : goal.returns-in-Ok-clause-complete
returns-in-Ok-clause-complete g c = c.run_plan.ensures.complete

pub returns-in-Ok-clause-complete_tally : goal.returns-in-Ok-clause-complete_tally
returns-in-Ok-clause-complete_tally g c = c.run_plan.ensures.complete_tally

pub returns-in-Ok-clause-complete_register : goal.returns-in-Ok-clause-complete_register
returns-in-Ok-clause-complete_register g c = c.run_plan.ensures.complete_register

pub returns-in-Ok-clause-complete_forecast : goal.returns-in-Ok-clause-complete_forecast
returns-in-Ok-clause-complete_forecast g c = c.run_plan.ensures.complete_forecast

pub run_plan-requires-clause-ok : goal.run_plan-requires-clause-ok
run_plan-requires-clause-ok g c = c.in-Ok.ensures.ok

pub run_plan-requires-clause-only : goal.run_plan-requires-clause-only
run_plan-requires-clause-only g c = c.in-Ok.ensures.only
